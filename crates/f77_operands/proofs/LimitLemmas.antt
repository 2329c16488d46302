-- Where the limit is passed, unit by unit and statement by statement.
use Rattle.f77_ast.specs.Limits.{most_operands}
use Rattle.std.proofs.Common.{◌≡◌, ℕ, ◌+◌, ◌<◌, ◌≤◌, max, Bool, true, false, cond, List, [], ◌∷◌, ◌++◌, Option, None, Some, option_map, refl, ap, ◌∙◌, subst, arith}
use Rattle.std.proofs.lemmas.Bool.Decides.{nat_tests}
use Rattle.std.proofs.lemmas.List.Sums.{sum_by-cons}
use Rattle.std.specs.List.{find, fold}
use Rattle.std.specs.Option.{option_or}
use Rattle.f77_ast.specs.declared.program.Listed.{Listed}
use Rattle.f77_ast.specs.declared.program.Unit.{Unit as ProgramUnit}
use Rattle.f77_ast.specs.declared.refusal.Refusal.{Refusal}
use Rattle.f77_operands.specs.Laws.{needs_of, AcceptedWithinTheLimit, RefusedWhereTheLimitIsPassed}
use Rattle.f77_operands.specs.Limit.{greatest_need, is_past, too_many, unit_refusal, refusal_from, operand_refusal}
use Rattle.f77_structure.specs.Needs.{need_of}

-- ---- greatest needs

greatest_from : (a : ℕ) (listing : List Listed) → fold (λ greatest listed. max greatest (need_of listed.stmt)) a listing ≡ max a (greatest_need listing)
greatest_from a [] = grind arith
greatest_from a (x ∷ listing) =
    let n = need_of x.stmt in
    let before = greatest_from (max a n) listing in
    let here = greatest_from (max 0 n) listing in
    grind arith

greatest_cons : (x : Listed) (listing : List Listed) → greatest_need (x ∷ listing) ≡ max (need_of x.stmt) (greatest_need listing)
greatest_cons x listing = let here = greatest_from (max 0 (need_of x.stmt)) listing in grind arith

-- ---- a unit

accepted_step : (others : ℕ) (x : Listed) (listing : List Listed) (past : Bool) → is_past others x ≡ past → (unit_refusal others listing ≡ None → others + greatest_need listing ≤ most_operands) → option_map too_many (cond past (Some x) (find (is_past others) listing)) ≡ None → others + greatest_need (x ∷ listing) ≤ most_operands
accepted_step others x listing true e ih h = cc
accepted_step others x listing false e ih h =
    let rest = ih h in
    let greatest = greatest_cons x listing in
    grind (arith, nat_tests)

unit_within : (others : ℕ) (listing : List Listed) → others ≤ most_operands → unit_refusal others listing ≡ None → others + greatest_need listing ≤ most_operands
unit_within others [] few h = omega arith
unit_within others (x ∷ listing) few h = accepted_step others x listing (is_past others x) refl (unit_within others listing few) h

within_step : (others : ℕ) (x : Listed) (listing : List Listed) (past : Bool) → is_past others x ≡ past → (others + greatest_need listing ≤ most_operands → unit_refusal others listing ≡ None) → others + greatest_need (x ∷ listing) ≤ most_operands → option_map too_many (cond past (Some x) (find (is_past others) listing)) ≡ None
within_step others x listing true e ih h =
    let greatest = greatest_cons x listing in
    grind (arith, nat_tests)
within_step others x listing false e ih h =
    let greatest = greatest_cons x listing in
    ih (omega arith)

unit_accepted : (others : ℕ) (listing : List Listed) → others + greatest_need listing ≤ most_operands → unit_refusal others listing ≡ None
unit_accepted others [] h = refl
unit_accepted others (x ∷ listing) h = within_step others x listing (is_past others x) refl (unit_accepted others listing) h

-- ---- a file

needs_cons : (unit : ProgramUnit) (units : List ProgramUnit) → needs_of (unit ∷ units) ≡ greatest_need unit.listing + needs_of units
needs_cons unit units = sum_by-cons (λ unit. greatest_need unit.listing) unit units

none_left : {A : Type 0} (a b : Option A) → option_or a b ≡ None → a ≡ None
none_left None b h = refl
none_left (Some x) b h = cc

none_right : {A : Type 0} (a b : Option A) → option_or a b ≡ None → b ≡ None
none_right None b h = h
none_right (Some x) b h = cc

file_within : (others : ℕ) (units : List ProgramUnit) → others ≤ most_operands → refusal_from others units ≡ None → others + needs_of units ≤ most_operands
file_within others [] few h = omega arith
file_within others (unit ∷ units) few h =
    let rest = refusal_from (others + greatest_need unit.listing) units in
    let here = unit_within others unit.listing few (none_left (unit_refusal others unit.listing) rest h) in
    let all = needs_cons unit units in
    let behind = file_within (others + greatest_need unit.listing) units here (none_right (unit_refusal others unit.listing) rest h) in
    omega arith

file_accepted : (others : ℕ) (units : List ProgramUnit) → others + needs_of units ≤ most_operands → refusal_from others units ≡ None
file_accepted others [] h = refl
file_accepted others (unit ∷ units) h =
    let all = needs_cons unit units in
    let rest = refusal_from (others + greatest_need unit.listing) units in
    ap (λ first. option_or first rest) (unit_accepted others unit.listing (omega arith))
    ∙ file_accepted (others + greatest_need unit.listing) units (omega arith)

pub accepted_within : AcceptedWithinTheLimit
accepted_within units = (within, accepted)
  where
    within : operand_refusal units ≡ None → needs_of units ≤ most_operands
    within h = let all = file_within 0 units (omega arith) h in omega arith

    accepted : needs_of units ≤ most_operands → operand_refusal units ≡ None
    accepted h = file_accepted 0 units (omega arith)

-- ---- where a file is refused

-- a statement of a unit, where the needs of the units before come to `others`: with it the limit is passed, without it not
record PassesIn (others : ℕ) (listing : List Listed) (refusal : Refusal) : Type 0 where
  earlier : List Listed
  listed : Listed
  later : List Listed
  its_place : listing ≡ earlier ++ listed ∷ later
  without : others + greatest_need earlier ≤ most_operands
  with_it : most_operands < others + greatest_need (earlier ++ listed ∷ [])
  code : refusal ≡ too_many listed

passes_step : (others : ℕ) (x : Listed) (listing : List Listed) (refusal : Refusal) (past : Bool) → is_past others x ≡ past → others ≤ most_operands → (unit_refusal others listing ≡ Some refusal → PassesIn others listing refusal) → option_map too_many (cond past (Some x) (find (is_past others) listing)) ≡ Some refusal → PassesIn others (x ∷ listing) refusal
passes_step others x listing refusal true e few ih h = record {
  earlier = [];
  listed = x;
  later = listing;
  its_place = refl;
  without = omega arith;
  with_it = let greatest = greatest_cons x [] in grind (arith, nat_tests);
  code = cc;
}
passes_step others x listing refusal false e few ih h =
    let rest : PassesIn others listing refusal = ih h in
    let before = greatest_cons x rest.earlier in
    let after = greatest_cons x (rest.earlier ++ rest.listed ∷ []) in
    record {
      earlier = x ∷ rest.earlier;
      listed = rest.listed;
      later = rest.later;
      its_place = ap (λ statements. x ∷ statements) rest.its_place;
      without = let within = rest.without in grind (arith, nat_tests);
      with_it = let past = rest.with_it in grind arith;
      code = rest.code;
    }

unit_passes : (others : ℕ) (listing : List Listed) (refusal : Refusal) → others ≤ most_operands → unit_refusal others listing ≡ Some refusal → PassesIn others listing refusal
unit_passes others [] refusal few h = cc
unit_passes others (x ∷ listing) refusal few h = passes_step others x listing refusal (is_past others x) refl few (unit_passes others listing refusal few) h

-- the same of a file
record PassesFrom (others : ℕ) (units : List ProgramUnit) (refusal : Refusal) : Type 0 where
  before : List ProgramUnit
  unit : ProgramUnit
  after : List ProgramUnit
  its_unit : units ≡ before ++ unit ∷ after
  here : PassesIn (others + needs_of before) unit.listing refusal

file_step : (others : ℕ) (unit : ProgramUnit) (units : List ProgramUnit) (refusal : Refusal) (first : Option Refusal) → unit_refusal others unit.listing ≡ first → others ≤ most_operands → (others + greatest_need unit.listing ≤ most_operands → refusal_from (others + greatest_need unit.listing) units ≡ Some refusal → PassesFrom (others + greatest_need unit.listing) units refusal) → option_or first (refusal_from (others + greatest_need unit.listing) units) ≡ Some refusal → PassesFrom others (unit ∷ units) refusal
file_step others unit units refusal None e few ih h =
    let rest : PassesFrom (others + greatest_need unit.listing) units refusal = ih (unit_within others unit.listing few e) h in
    let all = needs_cons unit rest.before in
    let sum : others + greatest_need unit.listing + needs_of rest.before ≡ others + needs_of (unit ∷ rest.before) = omega arith in
    record {
      before = unit ∷ rest.before;
      unit = rest.unit;
      after = rest.after;
      its_unit = ap (λ all. unit ∷ all) rest.its_unit;
      here = subst (λ (n : ℕ). PassesIn n rest.unit.listing refusal) sum rest.here;
    }
file_step others unit units refusal (Some found) e few ih h =
    let none : others ≡ others + needs_of [] = omega arith in
    record {
      before = [];
      unit = unit;
      after = units;
      its_unit = refl;
      here = subst (λ (n : ℕ). PassesIn n unit.listing refusal) none (unit_passes others unit.listing refusal few (e ∙ h));
    }

file_passes : (others : ℕ) (units : List ProgramUnit) (refusal : Refusal) → others ≤ most_operands → refusal_from others units ≡ Some refusal → PassesFrom others units refusal
file_passes others [] refusal few h = cc
file_passes others (unit ∷ units) refusal few h =
    file_step others unit units refusal (unit_refusal others unit.listing) refl few (file_passes (others + greatest_need unit.listing) units refusal) h

pub refused_where_passed : RefusedWhereTheLimitIsPassed
refused_where_passed units refusal h =
    let all : PassesFrom 0 units refusal = file_passes 0 units refusal (omega arith) h in
    let here : PassesIn (0 + needs_of all.before) all.unit.listing refusal = all.here in
    let without = here.without in
    let with_it = here.with_it in
    record {
      before = all.before;
      unit = all.unit;
      after = all.after;
      earlier = here.earlier;
      listed = here.listed;
      later = here.later;
      its_unit = all.its_unit;
      its_place = here.its_place;
      without = omega arith;
      with_it = omega arith;
      code = here.code;
    }
