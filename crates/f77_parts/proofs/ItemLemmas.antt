-- Items: what is spelled is read, and what is read is spelled.
use Rattle.std.proofs.Common.{◌≡◌, ◌⊎◌, inl, inr, ℕ, zero, suc, ◌+◌, ◌≤◌, ◌<◌, Bool, true, false, not, ◌||◌, ◌==◌, if◌then◌else◌, List, [], ◌∷◌, ◌++◌, length, drop, Option, Some, refl, sym, ap, ◌∙◌, subst, arith, length-append}
use Rattle.std.proofs.lemmas.Bool.{and_parts, and_from, eqb-true}
use Rattle.std.proofs.lemmas.List.{append_assoc, append-nil}
use Rattle.std.specs.Prelude.{codes}
use Rattle.std.specs.Char.{is_ascii_digit}
use Rattle.std.specs.List.{list_all}
use Rattle.f77_ast.specs.Name.{IsName, is_letter, is_alphanumeric}
use Rattle.f77_ast.specs.declared.expr.Expr.{Expr}
use Rattle.f77_ast.specs.declared.stmt.Item.{Item}
use Rattle.f77_ast.specs.declared.stmt.Item.TheVariants as item
use Rattle.f77_ast.specs.declared.stmt.LoopControl.{LoopControl}
use Rattle.f77_exprs.specs.declared.operators.Prefix.TheVariants as head_of
use Rattle.f77_exprs.specs.Operators.{Text, spelling}
use Rattle.f77_exprs.specs.Spelling.{truth, falsehood, parentheses, lower, joined}
use Rattle.f77_exprs.specs.Spelling as spelled
use Rattle.f77_exprs.specs.Reading.{Outcome, Parser, and_then, ◌>>=◌, ◌>>◌, pure, sees, alphanumerics}
use Rattle.f77_exprs.proofs.Complete.{bind}
use Rattle.f77_exprs.proofs.Primaries.{other, letter_first, digit_first, alphanumerics_of, all_alphanumeric}
use Rattle.f77_exprs.proofs.Sound.{Holds, holds_bind, holds_weak}
use Rattle.f77_exprs.proofs.Words.{drop_all}
use Rattle.f77_forms.specs.Form.{Spells, expect_word, read}
use Rattle.f77_parts.specs.Parts.{control, increment}
use Rattle.f77_parts.specs.Items.{plain, SpellsItem, plain_item, implied_do, SpellsItems, last_item, more_items, is_control, is_implied, goes_on, items_behind, items_of, implied, item_of, items_within}
use Rattle.f77_forms.specs.Depth.{has_at_depth}
use Rattle.f77_forms.proofs.LeafLemmas.{Next}
use Rattle.f77_forms.proofs.Forms.{is_clear, next, nullable, filled, complete, sound, Front, word_sound}
use Rattle.f77_forms.proofs.DepthLemmas.{sought, closed, comma_inside, passes, passes_name, dull_skip, dull_names, elsewhere}
use Rattle.f77_parts.proofs.ItemTurns.{item_implied, item_plain, no_more, one_more}

-- ---- the text of a control

-- [`,` expr]
abbrev IncrementText : Text → Type 0
IncrementText w = ((t : Text) × (e : Expr) × (w ≡ 44 ∷ t) × spelled.Spells 9 e t) ⊎ (w ≡ [])

-- name `=` expr `,` expr [`,` expr]
abbrev ControlText : Text → Type 0
ControlText s = (x : Text) × (y : Text) × (z : Text) × (w : Text) × (a : Expr) × (b : Expr) × (s ≡ x ++ 61 ∷ (y ++ 44 ∷ (z ++ w))) × IsName x × spelled.Spells 9 a y × spelled.Spells 9 b z × IncrementText w

increment_text : (o : Option Expr) (w : Text) → Spells increment o w → IncrementText w
increment_text o w (inl g) = inl (g.0, g.2.0, g.1, g.2.2)
increment_text o w (inr g) = inr g.1

pub control_text : (c : LoopControl) (s : Text) → Spells control c s → ControlText s
control_text c s h =
    let p = h.2 in
    let q = p.4 in
    let v = q.4 in
    let x = p.3.0 in
    let y = q.3.0 in (
      x,
      y,
      v.0,
      v.1,
      h.0.1.0,
      h.0.1.1.0,
      p.2
          ∙ ap (λ k. k ++ p.1) p.3.1
          ∙ append_assoc x (61 ∷ []) p.1
          ∙ ap (λ k. x ++ 61 ∷ k) (q.2 ∙ ap (λ k. k ++ q.1) q.3.1 ∙ append_assoc y (44 ∷ []) q.1 ∙ ap (λ k. y ++ 44 ∷ k) v.2),
      p.3.2.1,
      q.3.2,
      v.3,
      increment_text h.0.1.1.1 v.1 v.4,
    )

-- ---- the scanner passes over items

module _ (t : Bool) (at : ℕ) where
  assigns_inside : (n : ℕ) → at ≤ n → (r : Text) → has_at_depth (sought t) at false (suc n) (61 ∷ r) ≡ has_at_depth (sought t) at false (suc n) r
  assigns_inside n le r = by t
    where
      by : (t : Bool) → has_at_depth (sought t) at false (suc n) (61 ∷ r) ≡ has_at_depth (sought t) at false (suc n) r
      by true = rw (elsewhere at n le) refl
      by false = refl

  passes_step : (w : Text) → IncrementText w → (n : ℕ) → at ≤ n → (r : Text) → has_at_depth (sought t) at false (suc n) (w ++ r) ≡ has_at_depth (sought t) at false (suc n) r
  passes_step w (inl g) n le r = ap (λ x. has_at_depth (sought t) at false (suc n) (x ++ r)) g.2 ∙ comma_inside t at n (g.0 ++ r) le ∙ passes t at g.3 (suc n) (omega arith) r
  passes_step w (inr g) n le r = ap (λ x. has_at_depth (sought t) at false (suc n) (x ++ r)) g

  passes_control : (s : Text) → ControlText s → (n : ℕ) → at ≤ n → (r : Text) → has_at_depth (sought t) at false (suc n) (s ++ r) ≡ has_at_depth (sought t) at false (suc n) r
  passes_control s h n le r =
      let x = h.0 in
      let y = h.1 in
      let z = h.2 in
      let w = h.3 in
      ap (λ k. has_at_depth (sought t) at false (suc n) (k ++ r)) h.6
      ∙ ap (has_at_depth (sought t) at false (suc n)) (append_assoc x (61 ∷ (y ++ 44 ∷ (z ++ w))) r ∙ ap (λ k. x ++ 61 ∷ k) (append_assoc y (44 ∷ (z ++ w)) r ∙ ap (λ k. y ++ 44 ∷ k) (append_assoc z w r)))
      ∙ passes_name t at x h.7 (suc n) (omega arith) (61 ∷ (y ++ 44 ∷ (z ++ (w ++ r))))
      ∙ assigns_inside n le (y ++ 44 ∷ (z ++ (w ++ r)))
      ∙ passes t at h.8 (suc n) (omega arith) (44 ∷ (z ++ (w ++ r)))
      ∙ comma_inside t at n (z ++ (w ++ r)) le
      ∙ passes t at h.9 (suc n) (omega arith) (w ++ r)
      ∙ passes_step w h.10 n le r

  passes_plain : (refs : Bool) (a : Expr) (s : Text) → Spells (plain refs) a s → (n : ℕ) → at ≤ n → (r : Text) → has_at_depth (sought t) at false n (s ++ r) ≡ has_at_depth (sought t) at false n r
  passes_plain true a s h n le r = passes t at h.2 n le r
  passes_plain false a s h n le r = passes t at h n le r

  mutual
    pub passes_item : {refs : Bool} {one : Item} {s : Text} → SpellsItem refs one s → (n : ℕ) → at ≤ n → (r : Text) → has_at_depth (sought t) at false n (s ++ r) ≡ has_at_depth (sought t) at false n r
    passes_item {refs} (plain_item {a = a} {s = s} h) n le r = passes_plain refs a s h n le r
    passes_item (implied_do {c = c} {s = s} {t = u} h g) n le r =
        ap (has_at_depth (sought t) at false (suc n)) (append_assoc s (44 ∷ (u ++ 41 ∷ [])) r ∙ ap (λ x. s ++ 44 ∷ x) (append_assoc u (41 ∷ []) r))
        ∙ passes_inside h n le (44 ∷ (u ++ 41 ∷ r))
        ∙ comma_inside t at n (u ++ 41 ∷ r) le
        ∙ passes_control u (control_text c u g) n le (41 ∷ r)
        ∙ closed t at n r le

    passes_inside : {refs : Bool} {all : List Item} {s : Text} → SpellsItems refs all s → (n : ℕ) → at ≤ n → (r : Text) → has_at_depth (sought t) at false (suc n) (s ++ r) ≡ has_at_depth (sought t) at false (suc n) r
    passes_inside (last_item h) n le r = passes_item h (suc n) (omega arith) r
    passes_inside (more_items {s = s} {t = u} h g) n le r =
        ap (has_at_depth (sought t) at false (suc n)) (append_assoc s (44 ∷ u) r)
        ∙ passes_item h (suc n) (omega arith) (44 ∷ (u ++ r))
        ∙ comma_inside t at n (u ++ r) le
        ∙ passes_inside g n le r

-- no `=` stands outside parentheses in items
pub items_quiet : {refs : Bool} {all : List Item} {s : Text} → SpellsItems refs all s → (r : Text) → has_at_depth 61 0 false 0 (s ++ r) ≡ has_at_depth 61 0 false 0 r
items_quiet (last_item h) r = passes_item true 0 h 0 (omega arith) r
items_quiet (more_items {s = s} {t = u} h g) r =
    ap (has_at_depth 61 0 false 0) (append_assoc s (44 ∷ u) r)
    ∙ passes_item true 0 h 0 (omega arith) (44 ∷ (u ++ r))
    ∙ items_quiet g r

-- ---- parentheses of expressions hold no comma

group_closed : {k : ℕ} {a : Expr} {s : Text} → spelled.Spells k a s → (r : Text) → is_implied (s ++ r) ≡ false
group_closed (spelled.number s all fits) r = let f = digit_first s all in rw f.2 (rw (other is_ascii_digit 40 f.0 refl f.3) refl)
group_closed truth r = refl
group_closed falsehood r = refl
group_closed (spelled.constant bytes some) r = refl
group_closed (spelled.reference n {s = s} {t = t} is x y) r =
    let f = letter_first n is in
    ap is_implied (append_assoc n (s ++ t) r ∙ ap (λ x. x ++ ((s ++ t) ++ r)) f.2) ∙ (rw (other is_letter 40 f.0 refl f.3) refl)
group_closed (parentheses {s = s} h) r =
    ap (has_at_depth 44 1 false 1) (append_assoc s (41 ∷ []) r) ∙ passes false 1 h 1 (omega arith) (41 ∷ r)
group_closed (lower h) r = group_closed h r
group_closed (spelled.prefixed head_of.Plus h) r = refl
group_closed (spelled.prefixed head_of.Neg h) r = refl
group_closed (spelled.prefixed head_of.Not h) r = refl
group_closed (joined o {s = s} {t = t} h g) r = ap is_implied (append_assoc s (spelling o ++ t) r) ∙ group_closed h ((spelling o ++ t) ++ r)

plain_closed : (refs : Bool) (a : Expr) (s : Text) → Spells (plain refs) a s → (r : Text) → is_implied (s ++ r) ≡ false
plain_closed true a s h r = group_closed h.2 r
plain_closed false a s h r = group_closed h r

-- those of an implied-DO list do
listed : {refs : Bool} {all : List Item} {s : Text} → SpellsItems refs all s → (r : Text) → has_at_depth 44 1 false 1 (s ++ 44 ∷ r) ≡ true
listed (last_item h) r = passes_item false 1 h 1 (omega arith) (44 ∷ r)
listed (more_items {s = s} {t = u} h g) r = ap (has_at_depth 44 1 false 1) (append_assoc s (44 ∷ u) (44 ∷ r)) ∙ passes_item false 1 h 1 (omega arith) (44 ∷ (u ++ 44 ∷ r))

-- ---- no item begins as a control does

-- what may follow an item
abbrev pub closes : ℕ → Bool
closes c = (c == 41) || (c == 44)

control_front : (s r : Text) → is_control r ≡ false → is_control (s ++ r) ≡ true → is_control s ≡ true
control_front [] r none e = let k : false ≡ true = sym none ∙ e in cc
control_front (c ∷ s) r none e = by (is_alphanumeric c) refl (control_front s r none)
  where
    by : (t : Bool) → is_alphanumeric c ≡ t → (is_control (s ++ r) ≡ true → is_control s ≡ true) → is_control (c ∷ s) ≡ true
    by true q rest =
        let k : is_control (c ∷ (s ++ r)) ≡ is_control (s ++ r) = counted (s ++ r) q in
        counted s q ∙ rest (sym k ∙ e)
      where
        counted : (i : Text) → is_alphanumeric c ≡ true → is_control (c ∷ i) ≡ is_control i
        counted i q = let o : 1 + alphanumerics i ≡ suc (alphanumerics i) = omega arith in rw (q, o) refl
    by false q rest =
        let k : is_control (c ∷ (s ++ r)) ≡ (c == 61) = rw q refl in
        let m : is_control (c ∷ s) ≡ (c == 61) = rw q refl in
        m ∙ sym k ∙ e

control_sought : (s : Text) → is_control s ≡ true → has_at_depth 61 0 false 0 s ≡ true
control_sought [] e = cc
control_sought (c ∷ s) e = by (is_alphanumeric c) refl (control_sought s)
  where
    by : (t : Bool) → is_alphanumeric c ≡ t → (is_control s ≡ true → has_at_depth 61 0 false 0 s ≡ true) → has_at_depth 61 0 false 0 (c ∷ s) ≡ true
    by true q rest =
        let o : 1 + alphanumerics s ≡ suc (alphanumerics s) = omega arith in
        let k : is_control (c ∷ s) ≡ is_control s = rw (q, o) refl in
        let d : list_all is_alphanumeric (c ∷ []) ≡ true = and_from (is_alphanumeric c) true q refl in
        dull_skip 61 0 0 (c ∷ []) s (dull_names true (c ∷ []) d) ∙ rest (sym k ∙ e)
    by false q rest =
        let k : is_control (c ∷ s) ≡ (c == 61) = rw q refl in
        let m : c ≡ 61 = eqb-true c 61 (sym k ∙ e) in
        ap (λ x. has_at_depth 61 0 false 0 (x ∷ s)) m

uncontrolled_end : (r : Text) → Next closes r → is_control r ≡ false
uncontrolled_end [] h = refl
uncontrolled_end (c ∷ r) h = by (c == 41) (c == 44) refl refl h
  where
    by : (t u : Bool) → (c == 41) ≡ t → (c == 44) ≡ u → (t || u) ≡ true → is_control (c ∷ r) ≡ false
    by true u a b e = ap (λ x. is_control (x ∷ r)) (eqb-true c 41 a)
    by false true a b e = ap (λ x. is_control (x ∷ r)) (eqb-true c 44 b)
    by false false a b e = cc

uncontrolled : {refs : Bool} {one : Item} {s : Text} → SpellsItem refs one s → (r : Text) → Next closes r → is_control (s ++ r) ≡ false
uncontrolled {s = s} h r n = by (is_control (s ++ r)) refl
  where
    by : (t : Bool) → is_control (s ++ r) ≡ t → is_control (s ++ r) ≡ false
    by false e = e
    by true e =
        let k = control_sought s (control_front s r (uncontrolled_end r n) e) in
        let m : has_at_depth 61 0 false 0 s ≡ false = ap (has_at_depth 61 0 false 0) (sym (append-nil s)) ∙ passes_item true 0 h 0 (omega arith) [] in
        let x : true ≡ false = sym k ∙ m in
        cc

uncontrolled_all : {refs : Bool} {all : List Item} {s : Text} → SpellsItems refs all s → (r : Text) → Next closes r → is_control (s ++ r) ≡ false
uncontrolled_all (last_item h) r n = uncontrolled h r n
uncontrolled_all (more_items {s = s} {t = u} h g) r n = ap is_control (append_assoc s (44 ∷ u) r) ∙ uncontrolled h (44 ∷ (u ++ r)) refl

begins_control : (s r : Text) → ControlText s → is_control (s ++ r) ≡ true
begins_control s r h =
    let x = h.0 in
    let b = h.1 ++ 44 ∷ (h.2 ++ h.3) in
    ap (λ k. is_control (k ++ r)) h.6
    ∙ ap is_control (append_assoc x (61 ∷ b) r)
    ∙ ap (λ k. sees 61 (drop k (x ++ 61 ∷ (b ++ r)))) (alphanumerics_of x (61 ∷ (b ++ r)) (all_alphanumeric x h.7) refl)
    ∙ ap (sees 61) (drop_all x (61 ∷ (b ++ r)))

-- ---- what is spelled is read

plain_is_clear : (refs : Bool) → is_clear (plain refs) ≡ true
plain_is_clear true = refl
plain_is_clear false = refl

behind_plain : (refs : Bool) (r : Text) → Next closes r → Next (next (plain refs)) r
behind_plain refs [] h = tt
behind_plain refs (c ∷ r) h = by (c == 41) (c == 44) refl refl h
  where
    ends : (refs : Bool) (c : ℕ) → (c ≡ 41) ⊎ (c ≡ 44) → next (plain refs) c ≡ true
    ends true c (inl e) = ap (next (plain true)) e
    ends true c (inr e) = ap (next (plain true)) e
    ends false c (inl e) = ap (next (plain false)) e
    ends false c (inr e) = ap (next (plain false)) e

    by : (t u : Bool) → (c == 41) ≡ t → (c == 44) ≡ u → (t || u) ≡ true → next (plain refs) c ≡ true
    by true u a b e = ends refs c (inl (eqb-true c 41 a))
    by false true a b e = ends refs c (inr (eqb-true c 44 b))
    by false false a b e = cc

abbrev ReadsItems : Parser Item → List Item → Text → Text → Type 0
ReadsItems p all i r = (a : Item) × (j : Text) × (p i ≡ Some (a, j)) × (length j ≤ length i) × ((n : ℕ) (found : List Item) → length j ≤ n → items_behind p n (found ++ a ∷ []) j ≡ Some (found ++ all, r))

read_more : (p : Parser Item) (a : Item) (all : List Item) (s i r : Text) → goes_on (44 ∷ i) ≡ true → p (s ++ 44 ∷ i) ≡ Some (a, 44 ∷ i) → ReadsItems p all i r → ReadsItems p (a ∷ all) (s ++ 44 ∷ i) r
read_more p a all s i r on first y =
    let l = length-append s (44 ∷ i) in
    (a, 44 ∷ i, first, omega arith, goes y.0 y.1 y.2 y.3 y.4)
  where
    goes : (b : Item) (j : Text) → p i ≡ Some (b, j) → length j ≤ length i → ((n : ℕ) (found : List Item) → length j ≤ n → items_behind p n (found ++ b ∷ []) j ≡ Some (found ++ all, r))
        → (n : ℕ) (found : List Item) → length (44 ∷ i) ≤ n → items_behind p n (found ++ a ∷ []) (44 ∷ i) ≡ Some (found ++ a ∷ all, r)
    goes b j second within others zero found few = absurd (omega arith)
    goes b j second within others (suc n) found few =
        one_more p n (found ++ a ∷ []) (44 ∷ i) on
        ∙ bind (p i) (λ b. items_behind p n ((found ++ a ∷ []) ++ b ∷ [])) b j second
        ∙ others n (found ++ a ∷ []) (omega arith)
        ∙ ap (λ x. Some (x, r)) (append_assoc found (a ∷ []) all)

items_read : (p : Parser Item) (all : List Item) (i r : Text) → ReadsItems p all i r → items_of p i ≡ Some (all, r)
items_read p all i r y = bind (p i) (λ a. λ i. items_behind p (length i) (a ∷ []) i) y.0 y.1 y.2 ∙ y.4 (length y.1) [] (omega arith)

items_by : (refs : Bool) (k : ℕ) (all : List Item) (i r : Text) → ((d : ℕ) → k ≡ suc d → ReadsItems (item_of refs (suc d) (items_within refs d)) all i r) → 0 < k → items_within refs k i ≡ Some (all, r)
unfolding items_within
items_by refs zero all i r reads some = absurd (omega arith)
items_by refs (suc d) all i r reads some = items_read (item_of refs (suc d) (items_within refs d)) all i r (reads d refl)

mutual
  complete_item : {refs : Bool} {one : Item} {s : Text} → SpellsItem refs one s → (k : ℕ) → length s < suc k → (r : Text) → Next closes r → item_of refs (suc k) (items_within refs k) (s ++ r) ≡ Some (one, r)
  complete_item {refs} (plain_item {a = a} {s = s} h) k lt r n =
      item_plain refs (suc k) (items_within refs k) (s ++ r) (plain_closed refs a s h r)
      ∙ bind (read (suc k) (plain refs) (s ++ r)) (λ a. pure (item.Plain a)) a r (complete (plain refs) (plain_is_clear refs) (suc k) a s r lt h (behind_plain refs r n))
  complete_item {refs} (implied_do {all = all} {c = c} {s = s} {t = u} h g) k lt r n =
      let l = length-append s (44 ∷ (u ++ 41 ∷ [])) in
      let m = length-append u (41 ∷ []) in
      let e : (s ++ 44 ∷ (u ++ 41 ∷ [])) ++ r ≡ s ++ 44 ∷ (u ++ 41 ∷ r) = append_assoc s (44 ∷ (u ++ 41 ∷ [])) r ∙ ap (λ x. s ++ 44 ∷ x) (append_assoc u (41 ∷ []) r) in
      let w = control_text c u g in
      let off : goes_on (44 ∷ (u ++ 41 ∷ r)) ≡ false = ap not (begins_control u (41 ∷ r) w) in
      ap (λ x. item_of refs (suc k) (items_within refs k) (40 ∷ x)) e
      ∙ item_implied refs (suc k) (items_within refs k) (40 ∷ (s ++ 44 ∷ (u ++ 41 ∷ r))) (listed h (u ++ 41 ∷ r))
      ∙ bind (items_within refs k (s ++ 44 ∷ (u ++ 41 ∷ r))) (λ all. expect_word (codes ",") >> (read (suc k) control >>= (λ c. expect_word (codes ")") >> pure (item.Implied all c)))) all (44 ∷ (u ++ 41 ∷ r)) (items_by refs k all (s ++ 44 ∷ (u ++ 41 ∷ r)) (44 ∷ (u ++ 41 ∷ r)) (λ d e. reads_items h d (omega arith) (44 ∷ (u ++ 41 ∷ r)) refl off) (omega arith))
      ∙ bind (read (suc k) control (u ++ 41 ∷ r)) (λ c. expect_word (codes ")") >> pure (item.Implied all c)) c (41 ∷ r) (complete control refl (suc k) c u (41 ∷ r) (omega arith) g refl)

  reads_items : {refs : Bool} {all : List Item} {s : Text} → SpellsItems refs all s → (k : ℕ) → length s < suc k → (r : Text) → Next closes r → goes_on r ≡ false → ReadsItems (item_of refs (suc k) (items_within refs k)) all (s ++ r) r
  reads_items {refs} (last_item {one = one} {s = s} h) k lt r n off =
      let l = length-append s r in
      (one, r, complete_item h k lt r n, omega arith, λ m found few. no_more (item_of refs (suc k) (items_within refs k)) m (found ++ one ∷ []) r off)
  reads_items {refs} (more_items {one = one} {all = all} {s = s} {t = u} h g) k lt r n off =
      let l = length-append s (44 ∷ u) in
      let p = item_of refs (suc k) (items_within refs k) in
      let on : goes_on (44 ∷ (u ++ r)) ≡ true = ap not (uncontrolled_all g r n) in
      subst (λ x. ReadsItems p (one ∷ all) x r) (sym (append_assoc s (44 ∷ u) r))
      (read_more p one all s (u ++ r) r on (complete_item h k (omega arith) (44 ∷ (u ++ r)) refl) (reads_items g k (omega arith) r n off))

pub complete_items : {refs : Bool} {all : List Item} {s : Text} → SpellsItems refs all s → (k : ℕ) → length s < k → (r : Text) → Next closes r → goes_on r ≡ false → items_within refs k (s ++ r) ≡ Some (all, r)
complete_items {refs} {all} {s} h k lt r n off = items_by refs k all (s ++ r) r (λ d e. reads_items h d (omega arith) r n off) (omega arith)

-- ---- what is read is spelled

abbrev FrontItem : Bool → Text → Item → Text → Type 0
FrontItem refs i x r = (s : Text) × (i ≡ s ++ r) × SpellsItem refs x s

abbrev pub FrontItems : Bool → Text → List Item → Text → Type 0
FrontItems refs i all r = (s : Text) × (i ≡ s ++ r) × SpellsItems refs all s

adds : {refs : Bool} {found : List Item} {s : Text} → SpellsItems refs found s → (a : Item) (t : Text) → SpellsItem refs a t → SpellsItems refs (found ++ a ∷ []) (s ++ 44 ∷ t)
adds (last_item h) a t g = more_items h (last_item g)
adds {refs} (more_items {one = b} {all = all} {s = s} {t = u} h k) a t g = subst (SpellsItems refs (b ∷ (all ++ a ∷ []))) (sym (append_assoc s (44 ∷ u) (44 ∷ t))) (more_items h (adds k a t g))

sees_comma : (i : Text) → goes_on i ≡ true → i ≡ 44 ∷ drop 1 i
sees_comma [] e = cc
sees_comma (c ∷ i) e = ap (λ x. x ∷ i) (eqb-true c 44 (and_parts (c == 44) _ e).0)

abbrev GrowsItems : Bool → Text → Text → List Item → Text → Type 0
GrowsItems refs s i all r = (t : Text) × (s ++ i ≡ t ++ r) × SpellsItems refs all t

behind_sound : (refs : Bool) (p : Parser Item) → ((i : Text) → Holds (FrontItem refs i) (p i)) → (n : ℕ) (found : List Item) (s i : Text) → SpellsItems refs found s → Holds (GrowsItems refs s i) (items_behind p n found i)
unfolding items_behind
behind_sound refs p ok zero found s i h = (s, refl, h)
behind_sound refs p ok (suc n) found s i h = by (goes_on i) refl
    (λ e. holds_bind (p (drop 1 i)) (λ a. items_behind p n (found ++ a ∷ [])) (FrontItem refs (drop 1 i)) (GrowsItems refs s i) (ok (drop 1 i)) (λ a j x.
    holds_weak (items_behind p n (found ++ a ∷ []) j) (GrowsItems refs (s ++ 44 ∷ x.0) j) (GrowsItems refs s i) (behind_sound refs p ok n (found ++ a ∷ []) (s ++ 44 ∷ x.0) j (adds h a x.0 x.2))
    (λ all q w. (w.0, ap (λ z. s ++ z) (sees_comma i e ∙ ap (λ z. 44 ∷ z) x.1) ∙ sym (append_assoc s (44 ∷ x.0) j) ∙ w.1, w.2))))
  where
    by : (t : Bool) → goes_on i ≡ t → (goes_on i ≡ true → Holds (GrowsItems refs s i) (and_then (p (drop 1 i)) (λ a. items_behind p n (found ++ a ∷ [])))) → Holds (GrowsItems refs s i) (if◌then◌else◌ {A = Outcome (List Item)} t (and_then (p (drop 1 i)) (λ a. items_behind p n (found ++ a ∷ []))) (Some (found, i)))
    by true e f = f e
    by false e f = (s, refl, h)

item_sound : (refs : Bool) (d : ℕ) (inner : Parser (List Item)) → ((i : Text) → Holds (FrontItems refs i) (inner i)) → (i : Text) → Holds (FrontItem refs i) (item_of refs d inner i)
unfolding item_of
item_sound refs d inner ok i = by (is_implied i)
    (holds_bind (expect_word (codes "(") i) (λ _. inner >>= (λ all. expect_word (codes ",") >> (read d control >>= (λ c. expect_word (codes ")") >> pure (item.Implied all c))))) (λ u r. i ≡ codes "(" ++ r) (FrontItem refs i) (word_sound (codes "(") i) (λ u j e.
    holds_bind (inner j) (λ all. expect_word (codes ",") >> (read d control >>= (λ c. expect_word (codes ")") >> pure (item.Implied all c)))) (FrontItems refs j) (FrontItem refs i) (ok j) (λ all k x.
    holds_bind (expect_word (codes ",") k) (λ _. read d control >>= (λ c. expect_word (codes ")") >> pure (item.Implied all c))) (λ u r. k ≡ codes "," ++ r) (FrontItem refs i) (word_sound (codes ",") k) (λ u m f.
    holds_bind (read d control m) (λ c. expect_word (codes ")") >> pure (item.Implied all c)) (Front control m) (FrontItem refs i) (sound control refl d m) (λ c q y.
    holds_bind (expect_word (codes ")") q) (λ _. pure (item.Implied all c)) (λ u r. q ≡ codes ")" ++ r) (FrontItem refs i) (word_sound (codes ")") q) (λ u r g.
    (40 ∷ (x.0 ++ 44 ∷ (y.0 ++ 41 ∷ [])), e ∙ ap (λ z. 40 ∷ z) (x.1 ∙ ap (λ z. x.0 ++ z) (f ∙ ap (λ z. 44 ∷ z) (y.1 ∙ ap (λ z. y.0 ++ z) g ∙ sym (append_assoc y.0 (41 ∷ []) r))) ∙ sym (append_assoc x.0 (44 ∷ (y.0 ++ 41 ∷ [])) r)), implied_do x.2 y.2)))))))
    (holds_bind (read d (plain refs) i) (λ a. pure (item.Plain a)) (Front (plain refs) i) (FrontItem refs i) (sound (plain refs) (plain_is_clear refs) d i) (λ a r x. (x.0, x.1, plain_item x.2)))
  where
    by : (t : Bool) → Holds (FrontItem refs i) (implied d inner i) → Holds (FrontItem refs i) (and_then (read d (plain refs) i) (λ a. pure (item.Plain a))) → Holds (FrontItem refs i) (if◌then◌else◌ {A = Outcome Item} t (implied d inner i) (and_then (read d (plain refs) i) (λ a. pure (item.Plain a))))
    by true x y = x
    by false x y = y

pub items_sound : (refs : Bool) (k : ℕ) (i : Text) → Holds (FrontItems refs i) (items_within refs k i)
unfolding items_within
items_sound refs zero i = tt
items_sound refs (suc k) i = holds_bind (item_of refs (suc k) (items_within refs k) i) (λ a. λ i. items_behind (item_of refs (suc k) (items_within refs k)) (length i) (a ∷ []) i) (FrontItem refs i) (FrontItems refs i) (item_sound refs (suc k) (items_within refs k) (items_sound refs k) i) (λ a j x.
    holds_weak (items_behind (item_of refs (suc k) (items_within refs k)) (length j) (a ∷ []) j) (GrowsItems refs x.0 j) (FrontItems refs i) (behind_sound refs (item_of refs (suc k) (items_within refs k)) (item_sound refs (suc k) (items_within refs k) (items_sound refs k)) (length j) (a ∷ []) x.0 j (last_item x.2))
    (λ all r w. (w.0, x.1 ∙ w.1, w.2)))

pub items_filled : {refs : Bool} {all : List Item} {s : Text} → SpellsItems refs all s → (c : ℕ) × (t : Text) × (s ≡ c ∷ t)
items_filled {s = []} h = absurd (empty h refl)
  where
    no_plain : (refs : Bool) (a : Expr) (s : Text) → Spells (plain refs) a s → 0 < length s
    no_plain refs a s h = filled (plain refs) (plain_is_clear refs) (by refs) a s h
      where
        by : (refs : Bool) → not (nullable (plain refs)) ≡ true
        by true = refl
        by false = refl

    empty_item : {refs : Bool} {x : Item} {s : Text} → SpellsItem refs x s → s ≡ [] → ⊥
    empty_item {refs} (plain_item {a = a} {s = s} h) e = let l = no_plain refs a s h in let k = ap length e in absurd (omega arith)
    empty_item (implied_do h g) e = let k = ap length e in absurd (omega arith)

    empty : {refs : Bool} {all : List Item} {s : Text} → SpellsItems refs all s → s ≡ [] → ⊥
    empty (last_item h) e = empty_item h e
    empty (more_items {s = s} {t = u} h g) e = let l = length-append s (44 ∷ u) in let k = ap length e in absurd (omega arith)
items_filled {s = c ∷ t} h = (c, t, refl)
