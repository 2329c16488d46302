-- The names of the constants of a statement.
use Rattle.std.proofs.Common.{◌≡◌, ℕ, suc, ◌+◌, ◌<◌, List, [], ◌∷◌, ◌++◌, length, get_or, drop, Option, None, Some, refl, sym, ap, ◌∙◌, append_assoc, append-nil}
use Rattle.std.proofs.lemmas.List.{drop_more}
use Rattle.std.specs.List.{flat_map}
use Rattle.f77_ast.specs.declared.program.Listed.{Listed}
use Rattle.f77_ast.specs.declared.specification.Bound.{Bound}
use Rattle.f77_ast.specs.declared.specification.CommonGroup.{CommonGroup}
use Rattle.f77_ast.specs.declared.specification.Declarator.{Declarator}
use Rattle.f77_ast.specs.declared.specification.TypeSpec.{TypeSpec}
use Rattle.f77_ast.specs.declared.specification.TypedDeclarator.{TypedDeclarator}
use Rattle.f77_ast.specs.declared.stmt.Stmt.{Stmt}
use Rattle.f77_leaves.specs.Declarations.{bounds_facts, declarator_facts, entity_facts, common_facts, group_facts, dummy_facts, result_facts, facts_in, facts_of}
use Rattle.f77_leaves.specs.declared.declarations.Declared.{Declared}
use Rattle.f77_constants.specs.Constants.{constant_names, valued_name, valued_names}

pub valued_append : (xs ys : List Declared) → valued_names (xs ++ ys) ≡ valued_names xs ++ valued_names ys
valued_append [] ys = refl
valued_append (x ∷ xs) ys = ap (λ l. valued_name x.name x.fact ++ l) (valued_append xs ys) ∙ sym (append_assoc (valued_name x.name x.fact) (valued_names xs) (valued_names ys))

none_of : {A : Type 0} (f : A → List Declared) → ((x : A) → valued_names (f x) ≡ []) → (xs : List A) → valued_names (flat_map f xs) ≡ []
none_of f none [] = refl
none_of f none (x ∷ xs) = valued_append (f x) (flat_map f xs) ∙ ap (λ l. l ++ valued_names (flat_map f xs)) (none x) ∙ none_of f none xs

none_in_bounds : (name : List ℕ) (bounds : List Bound) → valued_names (bounds_facts name bounds) ≡ []
none_in_bounds name [] = refl
none_in_bounds name (bound ∷ bounds) = refl

none_in_declarator : (d : Declarator) → valued_names (declarator_facts d) ≡ []
none_in_declarator d = none_in_bounds d.name d.bounds

-- type statements, DIMENSION and COMMON name no constant
pub none_in_entities : (t : TypeSpec) (entities : List TypedDeclarator) → valued_names (flat_map (entity_facts t) entities) ≡ []
none_in_entities t = none_of (entity_facts t) (λ entity. none_in_declarator entity.declarator)

pub none_in_arrays : (arrays : List Declarator) → valued_names (flat_map declarator_facts arrays) ≡ []
none_in_arrays = none_of declarator_facts none_in_declarator

none_in_group : (group : CommonGroup) → valued_names (group_facts group) ≡ []
none_in_group group = none_of common_facts none_in_declarator group.members

pub none_in_groups : (groups : List CommonGroup) → valued_names (flat_map group_facts groups) ≡ []
none_in_groups = none_of group_facts none_in_group

pub none_in_dummies : (place : ℕ) (names : List (List ℕ)) → valued_names (dummy_facts place names) ≡ []
none_in_dummies place [] = refl
none_in_dummies place (name ∷ names) = none_in_dummies (suc place) names

pub none_in_function : (name : List ℕ) (t : Option TypeSpec) (dummies : List (List ℕ)) → valued_names (result_facts name t ++ dummy_facts 0 dummies) ≡ []
none_in_function name None dummies = none_in_dummies 0 dummies
none_in_function name (Some t) dummies = none_in_dummies 0 dummies

-- a statement that names no constant adds none
pub adds_none : (names : List (List ℕ)) (stmt other : Stmt) → stmt ≡ other → valued_names (facts_in other) ≡ [] → names ≡ names ++ valued_names (facts_in stmt)
adds_none names stmt other e none = sym (append-nil names) ∙ ap (λ l. names ++ l) (sym none ∙ ap (λ s. valued_names (facts_in s)) (sym e))

-- the names of one statement, and of those behind it
pub next_names : (unit : List Listed) (i : ℕ) (x : Listed) → i < length unit → x ≡ get_or unit i x → constant_names (drop i unit) ≡ valued_names (facts_in x.stmt) ++ constant_names (drop (i + 1) unit)
next_names unit i x within stands =
    ap constant_names (drop_more unit i x within ∙ ap (λ y. y ∷ drop (i + 1) unit) (sym stands))
    ∙ valued_append (facts_in x.stmt) (facts_of (drop (i + 1) unit))

pub names_turn : (unit : List Listed) (i : ℕ) (x : Listed) (names next all : List (List ℕ)) → i < length unit → x ≡ get_or unit i x → next ≡ names ++ valued_names (facts_in x.stmt) → names ++ constant_names (drop i unit) ≡ all → next ++ constant_names (drop (i + 1) unit) ≡ all
names_turn unit i x names next all within stands e so_far =
    ap (λ l. l ++ constant_names (drop (i + 1) unit)) e
    ∙ append_assoc names (valued_names (facts_in x.stmt)) (constant_names (drop (i + 1) unit))
    ∙ ap (λ l. names ++ l) (sym (next_names unit i x within stands))
    ∙ so_far
