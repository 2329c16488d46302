-- The rule on loops tells how their iterations use an address.
use Rattle.std.proofs.Common.{ℕ, zero, suc, ◌≡◌, ◌⊎◌, inl, inr, ℤ, pos, negsuc, ◌≤ℤ◌, true, false, subst, arith, rules}
use Rattle.std.proofs.lemmas.Int.{ints, by_lt_z}
use Rattle.uses.specs.Over.{Over, Before}
use Rattle.uses.specs.Use.{Use, untouched, written_first, joined, joined_upto, joined_over, is_exposed, is_written, Tells}
use Rattle.uses.specs.Laws.{EachTells, LoopTells}

-- ---- indices up to one more

more : (n : ℕ) (at : ℤ → Type 0) → Over (pos n) at → Over (pos (suc n)) at
more n at h = record { index = h.index; from_one = h.from_one; in_count = (let k = h.in_count in omega (arith, ints, k)); holds = h.holds }

last : (n : ℕ) (at : ℤ → Type 0) → at (pos (suc n)) → Over (pos (suc n)) at
last n at h = record { index = pos (suc n); from_one = omega (arith, ints); in_count = omega (arith, ints); holds = h }

split : (n : ℕ) (at : ℤ → Type 0) → Over (pos (suc n)) at → Over (pos n) at ⊎ at (pos (suc n))
split n at h = by_lt_z h.index (pos (suc n))
    (λ l. inl (record { index = h.index; from_one = h.from_one; in_count = omega (arith, ints, l); holds = h.holds }))
    (λ g. inr (let e : h.index ≡ pos (suc n) = (let k = h.in_count in omega (arith, ints, g, k)) in subst at e h.holds))

-- what holds before an index holds up to the index before that
before : (n : ℕ) (at : ℤ → Type 0) → Before (pos (suc n)) at → Over (pos n) at
before n at h = record { index = h.index; from_one = h.from_one; in_count = (let k = h.in_order in omega (arith, ints, k)); holds = h.holds }

before_is : (n : ℕ) (at : ℤ → Type 0) → Over (pos n) at → Before (pos (suc n)) at
before_is n at h = record { index = h.index; from_one = h.from_one; in_order = (let k = h.in_count in omega (arith, ints, k)); holds = h.holds }

none : (at : ℤ → Type 0) → Over (pos 0) at → ⊥
none at h = let a = h.from_one in let b = h.in_count in omega (arith, ints, a, b)

none_below : (n : ℕ) (at : ℤ → Type 0) → Over (negsuc n) at → ⊥
none_below n at h = let a = h.from_one in let b = h.in_count in omega (arith, ints, a, b)

-- ---- what is known of some iterations by how they use an address

-- whether one reads it before it writes it, whether one writes it, and whether one writes it first that none before reads first
record Knows (exposed written first : Type 0) (u : Use) : Type 0 where
  pub is_e : is_exposed u ≡ true → exposed
  pub no_e : u ≡ untouched → exposed → ⊥
  pub is_w : is_written u ≡ true → written
  pub no_w : is_written u ≡ false → written → ⊥
  pub is_f : u ≡ written_first → first
  pub no_f : (u ≡ written_first → ⊥) → first → ⊥

-- the same with one iteration more
record Grows (exposed written first exposed_now written_now first_now : Type 0) (v : Use) : Type 0 where
  pub e_more : exposed → exposed_now
  pub e_last : is_exposed v ≡ true → exposed_now
  pub e_split : exposed_now → exposed ⊎ (is_exposed v ≡ true)
  pub w_more : written → written_now
  pub w_last : is_written v ≡ true → written_now
  pub w_split : written_now → written ⊎ (is_written v ≡ true)
  pub f_more : first → first_now
  pub f_last : v ≡ written_first → (exposed → ⊥) → first_now
  pub f_split : first_now → first ⊎ ((v ≡ written_first) × (exposed → ⊥))

knows_more : (e w f e2 w2 f2 : Type 0) (u v : Use) → Grows e w f e2 w2 f2 v → Knows e w f u → Knows e2 w2 f2 (joined u v)
knows_more e w f e2 w2 f2 untouched untouched s k = record { is_e = λ h. search rules; no_e = λ h. search rules; is_w = λ h. search rules; no_w = λ h. search rules; is_f = λ h. search rules; no_f = λ h. search rules }
knows_more e w f e2 w2 f2 u v s k = record { is_e = λ h. search rules; no_e = λ h. search rules; is_w = λ h. search rules; no_w = λ h. search rules; is_f = λ h. search rules; no_f = λ h. search rules }

-- what is exposed and what is written, by the sets
pub exposed_by : (u : Use) (r w x : Type 0) → Tells r w x u → (r ⊎ x → is_exposed u ≡ true) × (is_exposed u ≡ true → r ⊎ x)
exposed_by untouched r w x t = (λ h. search rules, λ h. search rules)
exposed_by u r w x t = (λ h. search rules, λ h. search rules)

pub written_by : (u : Use) (r w x : Type 0) → Tells r w x u → (w ⊎ x → is_written u ≡ true) × (is_written u ≡ true → w ⊎ x)
written_by untouched r w x t = (λ h. search rules, λ h. search rules)
written_by u r w x t = (λ h. search rules, λ h. search rules)

-- iterations whose sets tell how they use an address
module _ (ro wf rw : ℤ → Type 0) (uses : ℤ → Use) where
  abbrev Read : ℤ → Type 0
  Read j = ro j ⊎ rw j

  abbrev Written : ℤ → Type 0
  Written j = wf j ⊎ rw j

  abbrev First : ℤ → Type 0
  First j = wf j × (Before j Read → ⊥)

  abbrev Told : ℤ → Type 0
  Told j = Tells (ro j) (wf j) (rw j) (uses j)

  grows : (n : ℕ) → Told (pos (suc n)) → Grows (Over (pos n) Read) (Over (pos n) Written) (Over (pos n) First) (Over (pos (suc n)) Read) (Over (pos (suc n)) Written) (Over (pos (suc n)) First) (uses (pos (suc n)))
  grows n t =
      let e = exposed_by (uses (pos (suc n))) (ro (pos (suc n))) (wf (pos (suc n))) (rw (pos (suc n))) t in
      let w = written_by (uses (pos (suc n))) (ro (pos (suc n))) (wf (pos (suc n))) (rw (pos (suc n))) t in record {
        e_more = more n Read;
        e_last = λ h. last n Read (e.1 h);
        e_split = λ h. elim (split n Read h) as (λ _. Over (pos n) Read ⊎ (is_exposed (uses (pos (suc n))) ≡ true)) [ inl a ↦ inl a | inr b ↦ inr (e.0 b) ];
        w_more = more n Written;
        w_last = λ h. last n Written (w.1 h);
        w_split = λ h. elim (split n Written h) as (λ _. Over (pos n) Written ⊎ (is_written (uses (pos (suc n))) ≡ true)) [ inl a ↦ inl a | inr b ↦ inr (w.0 b) ];
        f_more = more n First;
        f_last = λ q h. last n First (t.is_wf q, λ b. h (before n Read b));
        f_split = λ h. elim (split n First h) as (λ _. Over (pos n) First ⊎ ((uses (pos (suc n)) ≡ written_first) × (Over (pos n) Read → ⊥))) [ inl a ↦ inl a | inr b ↦ inr (t.wf_is b.0, λ o. b.1 (before_is n Read o)) ];
      }

  knows : (n : ℕ) → ((j : ℤ) → pos 1 ≤ℤ j → j ≤ℤ pos n → Told j) → Knows (Over (pos n) Read) (Over (pos n) Written) (Over (pos n) First) (joined_upto n uses)
  knows zero told = record { is_e = λ h. absurd (cc); no_e = λ e. none Read; is_w = λ h. absurd (cc); no_w = λ e. none Written; is_f = λ h. absurd (cc); no_f = λ e. none First }
  knows (suc n) told = knows_more _ _ _ _ _ _ (joined_upto n uses) (uses (pos (suc n))) (grows n (told (pos (suc n)) (omega (arith, ints)) (omega (arith, ints)))) (knows n (λ j from upto. told j from (omega (arith, ints, upto))))

  knows_over : (count : ℤ) → EachTells count ro wf rw uses → Knows (Over count Read) (Over count Written) (Over count First) (joined_over count uses)
  knows_over (pos n) told = knows n told
  knows_over (negsuc n) told = record { is_e = λ h. absurd (cc); no_e = λ e. none_below n Read; is_w = λ h. absurd (cc); no_w = λ e. none_below n Written; is_f = λ h. absurd (cc); no_f = λ e. none_below n First }

tells_over : (e w f : Type 0) (u : Use) → Knows e w f u → Tells (e × (w → ⊥)) f (w × (f → ⊥)) u
tells_over e w f untouched k = record { ro_is = λ h. search rules; is_ro = λ h. search rules; wf_is = λ h. search rules; is_wf = λ h. search rules; rw_is = λ h. search rules; is_rw = λ h. search rules }
tells_over e w f u k = record { ro_is = λ h. search rules; is_ro = λ h. search rules; wf_is = λ h. search rules; is_wf = λ h. search rules; rw_is = λ h. search rules; is_rw = λ h. search rules }

pub tells_loop : LoopTells
tells_loop count ro wf rw uses told = tells_over _ _ _ (joined_over count uses) (knows_over ro wf rw uses count told)
