-- The DO variables before a place, with one statement more.
use Rattle.std.proofs.Common.{◌≡◌, ℕ, suc, ◌+◌, ◌<◌, Bool, true, false, ◌||◌, ◌&&◌, List, [], ◌∷◌, ◌++◌, length, get_or, take, Option, None, Some, refl, sym, ap, ◌∙◌, arith, add-zero}
use Rattle.std.proofs.lemmas.List.{take_more, length-take}
use Rattle.std.specs.List.{list_any}
use Rattle.std.specs.Option.{option_map, option_and_then}
use Rattle.f77_ast.specs.declared.program.Listed.{Listed}
use Rattle.f77_structure.specs.Labels.{target_in}
use Rattle.f77_structure.specs.Statements.{terminal_label}
use Rattle.f77_structure.specs.Stretches.{range_at, range_to}
use Rattle.f77_structure.specs.Targets.{place_of, AreTargets}
use Rattle.f77_leaves.specs.declared.leaves.Leaf.{Leaf}
use Rattle.f77_leaves.specs.declared.leaves.Leaf.TheVariants.{Literal, Text, Named}
use Rattle.f77_structure.specs.declared.targets.Targets.{Targets}
use Rattle.f77_structure.specs.declared.stretches.Stretch.{Stretch}
use Rattle.f77_uses.specs.Ends.{is_end_past, is_reached, assigns_reached}
use Rattle.f77_uses.specs.declared.running.Running.{Running}
use Rattle.f77_uses.specs.Running.{do_variable, is_variable, reaches, is_run_by, is_run_among, is_assigned, assigns_running}
use Rattle.f77_uses.specs.Uses.{on_name}

or_false : (a : Bool) → (a || false) ≡ a
or_false true = refl
or_false false = refl

or_assoc : (a b c : Bool) → (a || (b || c)) ≡ ((a || b) || c)
or_assoc true b c = refl
or_assoc false b c = refl

pub or_comm : (a b : Bool) → (a || b) ≡ (b || a)
or_comm true true = refl
or_comm true false = refl
or_comm false true = refl
or_comm false false = refl

-- one statement behind others
run_append : (unit : List Listed) (name : List ℕ) (later place : ℕ) (xs : List Listed) (x : Listed) → is_run_among unit name later place (xs ++ x ∷ []) ≡ (is_run_among unit name later place xs || is_run_by unit name later (place + length xs) x)
run_append unit name later place [] x = or_false (is_run_by unit name later place x) ∙ ap (λ p. is_run_by unit name later p x) (sym (add-zero place))
run_append unit name later place (y ∷ ys) x =
    ap (λ b. is_run_by unit name later place y || b) (run_append unit name later (suc place) ys x ∙ ap (λ p. is_run_among unit name later (suc place) ys || is_run_by unit name later p x) moved)
    ∙ or_assoc (is_run_by unit name later place y) (is_run_among unit name later (suc place) ys) (is_run_by unit name later (place + length (y ∷ ys)) x)
  where
    moved : suc place + length ys ≡ place + length (y ∷ ys)
    moved = omega arith

-- one statement more of a unit
pub run_more : (unit : List Listed) (name : List ℕ) (later place : ℕ) (x : Listed) → place < length unit → x ≡ get_or unit place x → is_run_among unit name later 0 (take (place + 1) unit) ≡ (is_run_by unit name later place x || is_run_among unit name later 0 (take place unit))
run_more unit name later place x within stands =
    ap (is_run_among unit name later 0) (take_more unit place x within ∙ ap (λ y. take place unit ++ y ∷ []) (sym stands))
    ∙ run_append unit name later 0 (take place unit) x
    ∙ ap (λ p. is_run_among unit name later 0 (take place unit) || is_run_by unit name later p x) here
    ∙ or_comm (is_run_among unit name later 0 (take place unit)) (is_run_by unit name later place x)
  where
    here : 0 + length (take place unit) ≡ place
    here = omega (arith, length-take {A = Listed})

-- the end of a range tells what the range reaches
pub end_reaches : (later : ℕ) (range : Option Stretch) → is_end_past later (option_map (λ r. r.last) range) ≡ reaches later range
end_reaches later None = refl
end_reaches later (Some range) = refl

-- the place of a label that may be there
target_is : (unit : List Listed) (targets : Targets ℕ) → AreTargets unit targets → (label : Option ℕ) → option_and_then (place_of targets) label ≡ option_and_then (λ l. target_in l unit) label
target_is unit targets are None = refl
target_is unit targets are (Some label) = are.at label

-- one turn: the DO variables with one statement more
pub run_turn : (unit : List Listed) (targets : Targets ℕ) (name : List ℕ) (later place : ℕ) (x : Listed) (target last : Option ℕ) (before after : Bool) → AreTargets unit targets → place < length unit → x ≡ get_or unit place x → target ≡ option_and_then (place_of targets) (terminal_label x.stmt) → last ≡ option_map (λ r. r.last) (range_to place target) → after ≡ ((is_variable name (do_variable x.stmt) && is_end_past later last) || before) → before ≡ is_run_among unit name later 0 (take place unit) → after ≡ is_run_among unit name later 0 (take (place + 1) unit)
run_turn unit targets name later place x target last before after are within stands e f g h =
    g
    ∙ ap (λ b. (is_variable name (do_variable x.stmt) && is_end_past later last) || b) h
    ∙ ap (λ b. (is_variable name (do_variable x.stmt) && b) || is_run_among unit name later 0 (take place unit)) reached
    ∙ sym (run_more unit name later place x within stands)
  where
    reached : is_end_past later last ≡ reaches later (range_at unit place x)
    reached =
        ap (is_end_past later) (f ∙ ap (λ t. option_map (λ r. r.last) (range_to place t)) (e ∙ target_is unit targets are (terminal_label x.stmt)))
        ∙ end_reaches later (range_at unit place x)

-- two tests that agree
any_same : {A : Type 0} (f g : A → Bool) (xs : List A) → ((x : A) → f x ≡ g x) → list_any f xs ≡ list_any g xs
any_same f g [] same = refl
any_same f g (x ∷ xs) same = ap (λ b. b || list_any f xs) (same x) ∙ ap (λ b. g x || b) (any_same f g xs same)

-- whether a statement at a place is broken, by what is running there
pub broken_is : (unit : List Listed) (running : Running) (place : ℕ) (leaves : List Leaf) → ((name : List ℕ) (later : ℕ) → is_reached running name later ≡ is_run_among unit name later 0 (take place unit)) → list_any (on_name (assigns_reached running place)) leaves ≡ list_any (on_name (assigns_running unit place)) leaves
broken_is unit running place leaves runs = any_same (on_name (assigns_reached running place)) (on_name (assigns_running unit place)) leaves by
  where
    by : (leaf : Leaf) → on_name (assigns_reached running place) leaf ≡ on_name (assigns_running unit place) leaf
    by Literal = refl
    by (Text len) = refl
    by (Named mention) = ap (λ b. is_assigned mention.role && b) (runs mention.name place)
