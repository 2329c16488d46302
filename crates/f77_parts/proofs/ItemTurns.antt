-- The turns of the loop that reads items, and what is read of one.
use Rattle.std.proofs.Common.{◌≡◌, ℕ, zero, suc, ◌-◌, ◌≤◌, ◌<◌, Bool, not, [], ◌∷◌, ◌++◌, List, true, false, length, drop, Some, None, refl, sym, ap, ◌∙◌, arith}
use Rattle.std.proofs.lemmas.Bool.{and_parts}
use Rattle.f77_ast.specs.declared.stmt.Item.{Item}
use Rattle.f77_ast.specs.declared.stmt.Item.TheVariants as item
use Rattle.f77_exprs.specs.Operators.{Text}
use Rattle.f77_exprs.specs.Reading.{Outcome, Parser, and_then, pure, sees, after}
use Rattle.f77_exprs.proofs.Complete.{bind}
use Rattle.f77_exprs.proofs.Turns.{Turns}
use Rattle.f77_forms.specs.Form.{read}
use Rattle.f77_parts.specs.Items.{plain, is_implied, is_control, goes_on, items_behind, items_of, implied, item_of, items_within}

-- ---- one item

pub item_implied : (refs : Bool) (d : ℕ) (inner : Parser (List Item)) (i : Text) → is_implied i ≡ true → item_of refs d inner i ≡ implied d inner i
unfolding item_of
item_implied refs d inner i e = rw e refl

pub item_plain : (refs : Bool) (d : ℕ) (inner : Parser (List Item)) (i : Text) → is_implied i ≡ false → item_of refs d inner i ≡ and_then (read d (plain refs) i) (λ a. pure (item.Plain a))
unfolding item_of
item_plain refs d inner i e = rw e refl

-- ---- the depth

pub no_depth : (refs : Bool) (d : ℕ) (i : Text) → d ≡ 0 → items_within refs d i ≡ None
unfolding items_within
no_depth refs zero i e = refl
no_depth refs (suc d) i e = absurd (omega arith)

pub one_deeper : (refs : Bool) (d : ℕ) (i : Text) → 0 < d → items_within refs d i ≡ items_of (item_of refs d (items_within refs (d - 1))) i
unfolding items_within
one_deeper refs zero i some = absurd (omega arith)
one_deeper refs (suc d) i some = let e : suc d - 1 ≡ d = omega arith in ap (λ k. items_of (item_of refs (suc d) (items_within refs k)) i) (sym e)

-- ---- the loop

module _ (p : Parser Item) where
  pub items_start : (whole : Outcome (List Item)) (a : Item) (found : List Item) (i j : Text) → whole ≡ items_of p i → found ≡ a ∷ [] → p i ≡ Some (a, j) → Turns whole (λ n. items_behind p n found j) (length j)
  items_start whole a found i j w is first = record { turns = length j; enough = omega arith; same = w ∙ bind (p i) (λ a. λ i. items_behind p (length i) (a ∷ []) i) a j first ∙ ap (λ x. items_behind p (length j) x j) (sym is) }

  pub items_missing : (whole : Outcome (List Item)) (i : Text) → whole ≡ items_of p i → p i ≡ None → whole ≡ None
  items_missing whole i w e = w ∙ ap (λ o. and_then o (λ a. λ i. items_behind p (length i) (a ∷ []) i)) e

  pub no_more : (n : ℕ) (found : List Item) (i : Text) → goes_on i ≡ false → items_behind p n found i ≡ Some (found, i)
  unfolding items_behind
  no_more zero found i e = refl
  no_more (suc n) found i e = rw e refl

  pub one_more : (n : ℕ) (found : List Item) (i : Text) → goes_on i ≡ true → items_behind p (suc n) found i ≡ and_then (p (drop 1 i)) (λ a. items_behind p n (found ++ a ∷ []))
  unfolding items_behind
  one_more n found i e = rw e refl

  pub items_ended : (whole : Outcome (List Item)) (found : List Item) (i : Text) → Turns whole (λ n. items_behind p n found i) (length i) → goes_on i ≡ false → whole ≡ Some (found, i)
  items_ended whole found i t e = t.same ∙ no_more t.turns found i e

  shorter : (i : Text) → goes_on i ≡ true → length (drop 1 i) < length i
  shorter [] e = cc
  shorter (b ∷ i) e = omega arith

  behind_comma : (i j : Text) → goes_on i ≡ true → j ≡ after 44 i → j ≡ drop 1 i
  behind_comma i j e at = let s = (and_parts (sees 44 i) (not (is_control (drop 1 i))) e).0 in at ∙ (rw s refl)

  turned : (whole : Outcome (List Item)) (found : List Item) (i : Text) → Turns whole (λ n. items_behind p n found i) (length i) → goes_on i ≡ true → (m : ℕ) × (length (drop 1 i) ≤ m) × (whole ≡ and_then (p (drop 1 i)) (λ a. items_behind p m (found ++ a ∷ [])))
  turned whole found i t e = by t.turns t.enough t.same
    where
      by : (n : ℕ) → length i ≤ n → whole ≡ items_behind p n found i → (m : ℕ) × (length (drop 1 i) ≤ m) × (whole ≡ and_then (p (drop 1 i)) (λ a. items_behind p m (found ++ a ∷ [])))
      by zero le w = let s : length (drop 1 i) < length i = shorter i e in absurd (omega arith)
      by (suc n) le w = let s : length (drop 1 i) < length i = shorter i e in (n, omega arith, w ∙ one_more n found i e)

  pub items_fail : (whole : Outcome (List Item)) (found : List Item) (i j : Text) → Turns whole (λ n. items_behind p n found i) (length i) → goes_on i ≡ true → j ≡ after 44 i → p j ≡ None → whole ≡ None
  items_fail whole found i j t e at none =
      let w = turned whole found i t e in
      w.2 ∙ ap (λ x. and_then x (λ a. items_behind p w.0 (found ++ a ∷ []))) (ap p (sym (behind_comma i j e at)) ∙ none)

  pub items_go : (whole : Outcome (List Item)) (found more : List Item) (a : Item) (i j r : Text) → more ≡ found ++ a ∷ [] → Turns whole (λ n. items_behind p n found i) (length i) → goes_on i ≡ true → j ≡ after 44 i → p j ≡ Some (a, r) → length r ≤ length j → Turns whole (λ n. items_behind p n more r) (length r)
  items_go whole found more a i j r is t e at got le =
      let w = turned whole found i t e in
      let same : j ≡ drop 1 i = behind_comma i j e at in
      let l : length j ≡ length (drop 1 i) = ap length same in
      record {
        turns = w.0;
        enough = omega arith;
        same = w.2 ∙ ap (λ x. and_then x (λ a. items_behind p w.0 (found ++ a ∷ []))) (ap p (sym same) ∙ got) ∙ ap (λ x. items_behind p w.0 x r) (sym is);
      }
