use Rattle.std.proofs.Common.{◌≡◌, ◌≢◌, ℕ, zero, suc, Bor, ◌+◌, ◌-◌, Bool, true, false, cond, ◌||◌, List, [], ◌∷◌, Option, None, Some, ◌==◌, refl, sym, ap, ◌∙◌, arith, slice_get, find, IfSome}
use Rattle.std.specs.Bool.{Decides}
use Rattle.std.specs.Option.{is_some, option_or, option_copied}
use Rattle.std.proofs.lemmas.Bool.Decides.{Decides-eqb}
use Rattle.f77_ast.specs.declared.program.Loop.{Loop}
use Rattle.f77_ast.specs.Loop.{has_ordinal, kept_with, loop_at, has_loop, NumberedLoopsStandInPlace}

-- what is found has the ordinal
pub IfSome-find_ordinal : (ordinal : ℕ) (loops : List Loop) → IfSome (find (has_ordinal ordinal) loops) (λ loop. loop.ordinal ≡ ordinal)
IfSome-find_ordinal ordinal [] = tt
IfSome-find_ordinal ordinal (x ∷ xs) =
    by (x.ordinal == ordinal) (Decides-eqb x.ordinal ordinal) (IfSome-find_ordinal ordinal xs)
  where
    by : (b : Bool) → Decides b (x.ordinal ≡ ordinal) → IfSome (find (has_ordinal ordinal) xs) (λ loop. loop.ordinal ≡ ordinal) → IfSome (cond b (Some x) (find (has_ordinal ordinal) xs)) (λ loop. loop.ordinal ≡ ordinal)
    by true h rest = h.0 refl
    by false h rest = rest

-- a loop is found exactly where one of the list has the ordinal
pub is_some-find_ordinal : (ordinal : ℕ) (loops : List Loop) → is_some (find (has_ordinal ordinal) loops) ≡ has_loop loops ordinal
is_some-find_ordinal ordinal [] = refl
is_some-find_ordinal ordinal (x ∷ xs) = by (x.ordinal == ordinal) (is_some-find_ordinal ordinal xs)
  where
    by : (b : Bool) → is_some (find (has_ordinal ordinal) xs) ≡ has_loop xs ordinal → is_some (cond b (Some x) (find (has_ordinal ordinal) xs)) ≡ (b || has_loop xs ordinal)
    by true rest = refl
    by false rest = rest

-- no loop is found, where none of the list has the ordinal
pub find_ordinal-none : (ordinal : ℕ) (loops : List Loop) → ((place : ℕ) (loop : Loop) → slice_get loops place ≡ Some loop → loop.ordinal ≢ ordinal) → find (has_ordinal ordinal) loops ≡ None
find_ordinal-none ordinal [] h = refl
find_ordinal-none ordinal (x ∷ xs) h =
    by (x.ordinal == ordinal) (Decides-eqb x.ordinal ordinal) (find_ordinal-none ordinal xs (λ place loop e. h (suc place) loop e))
  where
    by : (b : Bool) → Decides b (x.ordinal ≡ ordinal) → find (has_ordinal ordinal) xs ≡ None → cond b (Some x) (find (has_ordinal ordinal) xs) ≡ None
    by true k rest = absurd (h 0 x refl (k.0 refl))
    by false k rest = rest

-- a loop that has the ordinal is kept
kept_with-same : (ordinal : ℕ) (loop : Loop) → loop.ordinal ≡ ordinal → kept_with ordinal (Some loop) ≡ Some loop
kept_with-same ordinal loop e = ap (λ b. cond b (Some loop) None) ((Decides-eqb loop.ordinal ordinal).1 e)

-- a list has the ordinal of each of its loops
has_loop-at : (ordinal : ℕ) (loops : List Loop) (place : ℕ) (loop : Loop) → slice_get loops place ≡ Some loop → has_ordinal ordinal loop ≡ true → has_loop loops ordinal ≡ true
has_loop-at ordinal [] place loop e h = absurd cc
has_loop-at ordinal (x ∷ xs) zero loop e h =
    let same : x ≡ loop = cc in
    let has : has_ordinal ordinal x ≡ true = ap (has_ordinal ordinal) same ∙ h in
    ap (λ b. b || has_loop xs ordinal) has
has_loop-at ordinal (x ∷ xs) (suc place) loop e h = by (x.ordinal == ordinal) (has_loop-at ordinal xs place loop e h)
  where
    by : (b : Bool) → has_loop xs ordinal ≡ true → (b || has_loop xs ordinal) ≡ true
    by true rest = refl
    by false rest = rest

-- there is a loop of an ordinal exactly where one of the list has it
pub is_some-loop_at : (loops : List Loop) (ordinal : ℕ) → is_some (loop_at loops ordinal) ≡ has_loop loops ordinal
is_some-loop_at loops ordinal = by (slice_get loops (ordinal - 1)) refl
  where
    kept : (loop : Loop) (b : Bool) → slice_get loops (ordinal - 1) ≡ Some loop → has_ordinal ordinal loop ≡ b → is_some (option_or (cond b (Some loop) None) (find (has_ordinal ordinal) loops)) ≡ has_loop loops ordinal
    kept loop true e h = sym (has_loop-at ordinal loops (ordinal - 1) loop e h)
    kept loop false e h = is_some-find_ordinal ordinal loops

    by : (candidate : Option Loop) → slice_get loops (ordinal - 1) ≡ candidate → is_some (option_or (kept_with ordinal candidate) (find (has_ordinal ordinal) loops)) ≡ has_loop loops ordinal
    by None e = is_some-find_ordinal ordinal loops
    by (Some loop) e = kept loop (has_ordinal ordinal loop) e refl

-- the loop of an ordinal has it
pub IfSome-loop_at : (loops : List Loop) (ordinal : ℕ) → IfSome (loop_at loops ordinal) (λ loop. loop.ordinal ≡ ordinal)
IfSome-loop_at loops ordinal = by (slice_get loops (ordinal - 1))
  where
    kept : (loop : Loop) (b : Bool) → Decides b (loop.ordinal ≡ ordinal) → IfSome (option_or (cond b (Some loop) None) (find (has_ordinal ordinal) loops)) (λ l. l.ordinal ≡ ordinal)
    kept loop true h = h.0 refl
    kept loop false h = IfSome-find_ordinal ordinal loops

    by : (candidate : Option Loop) → IfSome (option_or (kept_with ordinal candidate) (find (has_ordinal ordinal) loops)) (λ l. l.ordinal ≡ ordinal)
    by None = IfSome-find_ordinal ordinal loops
    by (Some loop) = kept loop (has_ordinal ordinal loop) (Decides-eqb loop.ordinal ordinal)

-- where the loops are numbered in order, the loop of an ordinal stands at the ordinal's place
pub loop_at-numbered : NumberedLoopsStandInPlace
loop_at-numbered loops place numbered =
    ap (λ k. option_or (kept_with (place + 1) (slice_get loops k)) (find (has_ordinal (place + 1)) loops)) same_place
    ∙ by (slice_get loops place) refl
  where
    same_place : place + 1 - 1 ≡ place
    same_place = omega arith

    elsewhere : slice_get loops place ≡ None → (k : ℕ) (loop : Loop) → slice_get loops k ≡ Some loop → loop.ordinal ≢ place + 1
    elsewhere e k loop h has =
        let same : k ≡ place = omega (arith, numbered k loop h, has) in
        let there : slice_get loops place ≡ Some loop = ap (slice_get loops) (sym same) ∙ h in
        cc

    by : (candidate : Option Loop) → slice_get loops place ≡ candidate → option_or (kept_with (place + 1) candidate) (find (has_ordinal (place + 1)) loops) ≡ candidate
    by None e = find_ordinal-none (place + 1) loops (elsewhere e)
    by (Some loop) e =
        ap (λ o. option_or o (find (has_ordinal (place + 1)) loops)) (kept_with-same (place + 1) loop (numbered place loop e))

-- what holds of a loop behind a reference that may be there
pub IfSome-copied : (ordinal : ℕ) (o : Option (Bor Loop)) → IfSome (option_copied o) (λ loop. loop.ordinal ≡ ordinal) → IfSome o (λ loop. loop.now.ordinal ≡ ordinal)
IfSome-copied ordinal None h = tt
IfSome-copied ordinal (Some loop) h = h

-- whether it is there
pub is_some-copied : (o : Option (Bor Loop)) → is_some (option_copied o) ≡ is_some o
is_some-copied None = refl
is_some-copied (Some loop) = refl
