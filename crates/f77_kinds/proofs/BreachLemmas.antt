-- What one of some parts breaks, part by part.
use Rattle.std.proofs.Common.{◌≡◌, ℕ, ◌+◌, ◌<◌, ◌≤◌, Bool, true, false, ◌||◌, List, [], ◌∷◌, length, map, get_or, drop, Option, Some, refl, sym, ap, ◌∙◌, add-one}
use Rattle.std.proofs.lemmas.List.{drop_more, drop_all, length-map}
use Rattle.std.specs.Option.{option_map}
use Rattle.f77_ast.specs.declared.expr.Expr.{Expr}
use Rattle.f77_ast.specs.declared.stmt.Item.{Item}
use Rattle.f77_ast.specs.declared.stmt.Item.TheFolds.{fold-roll-Item}
use Rattle.f77_ast.specs.declared.stmt.Item.TheOpen as item_layer
use Rattle.f77_ast.specs.declared.stmt.Item.TheVariants as item
use Rattle.f77_ast.specs.declared.stmt.Item.TheVariants.{rolls-Implied}
use Rattle.f77_ast.specs.declared.stmt.LoopControl.{LoopControl}
use Rattle.f77_leaves.specs.Declarations.{Declarations}
use Rattle.f77_leaves.specs.declared.meant.Meant.{Meant}
use Rattle.f77_kinds.specs.Breaches.{no_breach, either, any_of}
use Rattle.f77_kinds.specs.Found.{argument_breach, arguments_breach, listed_found, base_found}
use Rattle.f77_kinds.specs.Statements.{control_breach, item_step, item_breach}
use Rattle.f77_kinds.specs.declared.breach.Breach.{Breach}
use Rattle.f77_kinds.specs.declared.found.Found.{Found}
use Rattle.f77_kinds.specs.declared.items.Transfer.{Transfer}

or_assoc : (a b c : Bool) → ((a || b) || c) ≡ (a || (b || c))
or_assoc true b c = refl
or_assoc false b c = refl

or_false : (a : Bool) → (a || false) ≡ a
or_false true = refl
or_false false = refl

abbrev breach_of : Bool → Bool → Breach
breach_of clash miscount = record { clash = clash; miscount = miscount }

pub either_assoc : (a b c : Breach) → either (either a b) c ≡ either a (either b c)
either_assoc a b c = λ i. breach_of (or_assoc a.clash b.clash c.clash i) (or_assoc a.miscount b.miscount c.miscount i)

pub either_none : (a : Breach) → either a no_breach ≡ a
either_none a = λ i. breach_of (or_false a.clash i) (or_false a.miscount i)

-- one turn of a loop over subscripts or arguments, by what its calls answered
pub argument_turn : {A : Type 0} (meaning : Meant) (look : A → Found) (args : List A) (place : ℕ) (arg : A) (before next one all : Breach) (found : Found) → place < length args → arg ≡ get_or args place arg → found ≡ look arg → one ≡ argument_breach meaning place found → next ≡ either before one → either before (arguments_breach meaning place (map look (drop place args))) ≡ all → either next (arguments_breach meaning (place + 1) (map look (drop (place + 1) args))) ≡ all
argument_turn {A = A} meaning look args place arg before next one all found within stands looked judged joined so_far =
    let rest = map look (drop (place + 1) args) in
    ap (λ b. either b (arguments_breach meaning (place + 1) rest)) (joined ∙ ap (either before) (judged ∙ ap (argument_breach meaning place) looked))
    ∙ either_assoc before (argument_breach meaning place (look arg)) (arguments_breach meaning (place + 1) rest)
    ∙ ap (λ n. either before (either (argument_breach meaning place (look arg)) (arguments_breach meaning n rest))) (add-one place)
    ∙ ap (λ (l : List A). either before (arguments_breach meaning place (map look l))) (sym (drop_more args place arg within ∙ ap (λ x. x ∷ drop (place + 1) args) (sym stands)))
    ∙ so_far

-- one turn of a loop over parts
pub part_turn : {A : Type 0} (breach : A → Breach) (parts : List A) (i : ℕ) (part : A) (before next one all : Breach) → i < length parts → part ≡ get_or parts i part → one ≡ breach part → next ≡ either before one → either before (any_of breach (drop i parts)) ≡ all → either next (any_of breach (drop (i + 1) parts)) ≡ all
part_turn {A = A} breach parts i part before next one all within stands judged joined so_far =
    let rest = any_of breach (drop (i + 1) parts) in
    ap (λ b. either b rest) (joined ∙ ap (either before) judged)
    ∙ either_assoc before (breach part) rest
    ∙ ap (λ (l : List A). either before (any_of breach l)) (sym (drop_more parts i part within ∙ ap (λ x. x ∷ drop (i + 1) parts) (sym stands)))
    ∙ so_far

-- the end of a loop over parts
pub parts_ended : {A : Type 0} (breach : A → Breach) (parts : List A) (i : ℕ) (before all : Breach) → length parts ≤ i → either before (any_of breach (drop i parts)) ≡ all → before ≡ all
parts_ended {A = A} breach parts i before all past so_far =
    sym (either_none before)
    ∙ ap (λ (l : List A). either before (any_of breach l)) (sym (drop_all i parts past))
    ∙ so_far

-- the end of a loop over subscripts or arguments, and what is found in their name with them
pub listed_is : (unit : Declarations) (name : List ℕ) (meaning : Meant) (look : Expr → Found) (given : Option (List Expr)) (args items : List Expr) (count place : ℕ) (breach : Breach) (result : Found) → given ≡ Some args → items ≡ args → count ≡ length args → length items ≤ place → either breach (arguments_breach meaning place (map look (drop place items))) ≡ arguments_breach meaning 0 (map look items) → result ≡ listed_found unit name meaning count breach → result ≡ base_found unit name meaning (option_map (map look) given)
listed_is unit name meaning look given args items count place breach result is_given same counted past so_far made =
    let all : breach ≡ arguments_breach meaning 0 (map look items) =
    sym (either_none breach)
    ∙ ap (λ (l : List Expr). either breach (arguments_breach meaning place (map look l))) (sym (drop_all place items past))
    ∙ so_far in
    made
    ∙ ap (λ n. listed_found unit name meaning n breach) (counted ∙ sym (length-map args look))
    ∙ ap (listed_found unit name meaning (length (map look args))) (all ∙ ap (λ (l : List Expr). arguments_breach meaning 0 (map look l)) same)
    ∙ ap (λ (o : Option (List Expr)). base_found unit name meaning (option_map (map look) o)) (sym is_given)

-- what one of some parts breaks, part by part
pub any_of_each : {A : Type 0} (breach : A → Breach) (parts : List A) → any_of (λ (b : Breach). b) (map breach parts) ≡ any_of breach parts
any_of_each breach [] = refl
any_of_each breach (part ∷ parts) = ap (either (breach part)) (any_of_each breach parts)

-- what is broken in an implied DO
pub implied_breach : (unit : Declarations) (way : Transfer) (items : List Item) (control : LoopControl) → item_breach unit way (item.Implied items control) ≡ either (any_of (item_breach unit way) items) (control_breach unit control)
implied_breach unit way items control =
    ap (item_breach unit way) (sym (rolls-Implied items control))
    ∙ fold-roll-Item Breach (item_step unit way) (item_layer.Implied items control)
    ∙ ap (λ (b : Breach). either b (control_breach unit control)) (any_of_each (item_breach unit way) items)
