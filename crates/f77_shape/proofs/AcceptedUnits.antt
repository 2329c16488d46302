-- The units of every accepted file: each ends with END, and one is the main unit.
use Rattle.f77_ast.specs.declared.rule.Rule.TheVariants.{NoProgram}
use Rattle.std.proofs.Common.{◌≡◌, ◌≢◌, ℕ, zero, suc, ◌-◌, Bool, true, false, not, ◌||◌, ◌==◌, List, [], ◌∷◌, ◌++◌, map, length, Option, None, Some, if◌then◌else◌, refl, sym, ap, ◌∙◌, subst, arith, slice_get}
use Rattle.std.proofs.lemmas.List.Elements.{All-cons, All-nil}
use Rattle.std.specs.Prelude.{All, IsFalse}
use Rattle.std.specs.List.{flat_map, list_any}
use Rattle.f77_ast.specs.declared.program.Listed.{Listed}
use Rattle.f77_ast.specs.declared.program.Unit.{Unit as ProgramUnit}
use Rattle.f77_ast.specs.declared.stmt.Stmt.{Stmt, End}
use Rattle.f77_ast.specs.declared.stmt.Stmt as stmt
use Rattle.f77_ast.specs.Refusal.{when}
use Rattle.f77_structure.specs.Units.{EndsWithEnd, is_main, onto_first, cut, unit_of, units_of}
use Rattle.f77_shape.specs.Breaks.{at}
use Rattle.f77_shape.specs.Laws.{AcceptedUnitsEnd, AcceptedFilesHaveOneMain, HasOneMain}
use Rattle.f77_shape.specs.Limits.{statement_breaks, unit_breaks, name_breaks}
use Rattle.f77_shape.specs.Program.{main_breaks, second_mains, end_breaks, end_breaks_by, first_refused, no_program}
use Rattle.f77_shape.specs.Shape.{breaks_in, breaks_among}
use Rattle.f77_structure.specs.Statements.{is_end}
use Rattle.f77_shape.proofs.Accepted.{Nothing, nothing_broken, left_none, right_none, kept_when, have_statements, mapped, HasStatement}

-- ---- each unit ends with END

end_is : (s : Stmt) → is_end s ≡ true → s ≡ End
end_is stmt.End e = refl
end_is s e = absurd cc

-- whether the last of some statements, where there are any, is END
abbrev last_ends : List Listed → Bool
last_ends [] = true
last_ends (x ∷ []) = is_end x.stmt
last_ends (x ∷ y ∷ listing) = last_ends (y ∷ listing)

last_by : (listing : List Listed) → end_breaks_by 2 (slice_get listing (length listing - 1)) ≡ [] → last_ends listing ≡ true
last_by [] e = refl
last_by (x ∷ []) e = by (is_end x.stmt) (kept_when (not (is_end x.stmt)) (at x NoProgram) e)
  where
    by : (b : Bool) → not b ≡ false → b ≡ true
    by true e = refl
    by false e = absurd cc
last_by (x ∷ y ∷ listing) e =
    let n : length (x ∷ y ∷ listing) - 1 ≡ suc (length (y ∷ listing) - 1) = omega arith in
    last_by (y ∷ listing) (ap (λ k. end_breaks_by 2 (slice_get (x ∷ y ∷ listing) k)) (sym n) ∙ e)

-- the rule, whichever refusal it gives
whichever : (count : ℕ) (o : Option Listed) → end_breaks_by count o ≡ [] → end_breaks_by 2 o ≡ []
whichever count None e = refl
whichever count (Some last) e = by (is_end last.stmt) (kept_when (not (is_end last.stmt)) (if count == 1 then no_program else at last NoProgram) e)
  where
    by : (b : Bool) → not b ≡ false → when (not b) (at last NoProgram) ≡ []
    by true e = refl
    by false e = absurd cc

-- the same of units, one by one
abbrev AllEnd : List (List Listed) → Type 0
AllEnd [] = Unit {0}
AllEnd (unit ∷ units) = EndsWithEnd unit × AllEnd units

-- whether a statement isn't END
abbrev IsNoEnd : Listed → Type 0
IsNoEnd listed = IsFalse (is_end listed.stmt)

onto_ends : (x : Listed) (units : List (List Listed)) → IsNoEnd x → AllEnd units → units ≢ [] → AllEnd (onto_first x units)
onto_ends x [] other ends some = absurd (some refl)
onto_ends x (unit ∷ units) other ends some =
    let e : EndsWithEnd unit = ends.0 in
    (record { before = x ∷ e.before; last = e.last; joined = ap (λ l. x ∷ l) e.joined; nowhere_else = All-cons IsNoEnd x e.before other e.nowhere_else; is_end = e.is_end }, ends.1)

onto_some : (x : Listed) (units : List (List Listed)) → onto_first x units ≢ []
onto_some x [] e = absurd cc
onto_some x (unit ∷ units) e = absurd cc

cut_some : (x : Listed) (listing : List Listed) → cut (x ∷ listing) ≢ []
cut_some x listing = by (is_end x.stmt)
  where
    by : (b : Bool) → (if b then (x ∷ []) ∷ cut listing else onto_first x (cut listing)) ≢ []
    by true e = absurd cc
    by false e = onto_some x (cut listing) e

cut_ends : (listing : List Listed) → last_ends listing ≡ true → AllEnd (cut listing)
cut_ends [] e = tt
cut_ends (x ∷ []) e = by (is_end x.stmt) refl
  where
    by : (b : Bool) → is_end x.stmt ≡ b → AllEnd (if b then (x ∷ []) ∷ [] else onto_first x [])
    by true f = (record { before = []; last = x; joined = refl; nowhere_else = All-nil IsNoEnd; is_end = end_is x.stmt f }, tt)
    by false f = absurd cc
cut_ends (x ∷ y ∷ listing) e = by (is_end x.stmt) refl (cut_ends (y ∷ listing) e)
  where
    by : (b : Bool) → is_end x.stmt ≡ b → AllEnd (cut (y ∷ listing)) → AllEnd (if b then (x ∷ []) ∷ cut (y ∷ listing) else onto_first x (cut (y ∷ listing)))
    by true f rest = (record { before = []; last = x; joined = refl; nowhere_else = All-nil IsNoEnd; is_end = end_is x.stmt f }, rest)
    by false f rest = onto_ends x (cut (y ∷ listing)) f rest (cut_some y listing)

all_end : (units : List (List Listed)) → AllEnd units → All (λ unit. EndsWithEnd unit.listing) (map unit_of units)
all_end [] ends = All-nil (λ (unit : ProgramUnit). EndsWithEnd unit.listing)
all_end (unit ∷ units) ends = All-cons (λ (unit : ProgramUnit). EndsWithEnd unit.listing) (unit_of unit) (map unit_of units) ends.0 (all_end units ends.1)

pub units_end : AcceptedUnitsEnd
units_end statements units e =
    let n : Nothing statements units = nothing_broken statements units e in
    let us = units_of statements in
    let front : end_breaks statements ++ statement_breaks statements ≡ [] = left_none (end_breaks statements ++ statement_breaks statements) (breaks_among us) n.none in
    let none : end_breaks statements ≡ [] = left_none (end_breaks statements) (statement_breaks statements) front in
    let ends : last_ends statements ≡ true = last_by statements (whichever (length statements) (slice_get statements (length statements - 1)) none) in
    subst (λ (l : List ProgramUnit). All (λ unit. EndsWithEnd unit.listing) l) n.made (all_end (cut statements) (cut_ends statements ends))

-- ---- one main unit

-- each of some units has a statement
abbrev HaveStatements : List ProgramUnit → Type 0
HaveStatements units = (k : ℕ) (u : ProgramUnit) → slice_get units k ≡ Some u → HasStatement u

first_kept : (listing : List Listed) (b : Bool) → (if b then first_refused NoProgram listing else []) ≡ [] → listing ≢ [] → b ≡ false
first_kept [] b e some = absurd (some refl)
first_kept (x ∷ listing) true e some = absurd cc
first_kept (x ∷ listing) false e some = refl

-- behind a main unit there is none
none_behind : (units : List ProgramUnit) → second_mains true units ≡ [] → HaveStatements units → (k : ℕ) (u : ProgramUnit) → slice_get units k ≡ Some u → is_main u.listing ≡ false
none_behind [] e some k u h = absurd cc
none_behind (first ∷ units) e some zero u h =
    let here : is_main first.listing ≡ false = first_kept first.listing (is_main first.listing) (left_none (if is_main first.listing then first_refused NoProgram first.listing else []) (second_mains true units) e) (some 0 first refl) in
    let same : first ≡ u = cc in
    ap (λ (w : ProgramUnit). is_main w.listing) (sym same) ∙ here
none_behind (first ∷ units) e some (suc k) u h =
    none_behind units (right_none (if is_main first.listing then first_refused NoProgram first.listing else []) (second_mains true units) e) (λ j w f. some (suc j) w f) k u h

one_among : (units : List ProgramUnit) → second_mains false units ≡ [] → list_any (λ unit. is_main unit.listing) units ≡ true → HaveStatements units → HasOneMain units
one_among [] e any some = absurd cc
one_among (first ∷ units) e any some = by (is_main first.listing) refl e any (λ f g. one_among units f g (λ j w h. some (suc j) w h))
  where
    by : (b : Bool) → is_main first.listing ≡ b → second_mains b units ≡ [] → (b || list_any (λ unit. is_main unit.listing) units) ≡ true → (second_mains false units ≡ [] → list_any (λ unit. is_main unit.listing) units ≡ true → HasOneMain units) → HasOneMain (first ∷ units)
    by true is none any rest = record {
      place = 0;
      unit = first;
      stands = refl;
      main = is;
      others = λ k other h apart. others k other h apart;
    }
      where
        others : (k : ℕ) (other : ProgramUnit) → slice_get (first ∷ units) k ≡ Some other → k ≢ 0 → is_main other.listing ≡ false
        others zero other h apart = absurd (apart refl)
        others (suc k) other h apart = none_behind units none (λ j w f. some (suc j) w f) k other h
    by false is none any rest =
        let r : HasOneMain units = rest none any in
        record {
          place = suc r.place;
          unit = r.unit;
          stands = r.stands;
          main = r.main;
          others = λ k other h apart. others r k other h apart;
        }
      where
        others : (r : HasOneMain units) (k : ℕ) (other : ProgramUnit) → slice_get (first ∷ units) k ≡ Some other → k ≢ suc r.place → is_main other.listing ≡ false
        others r zero other h apart = let same : first ≡ other = cc in ap (λ (w : ProgramUnit). is_main w.listing) (sym same) ∙ is
        others r (suc k) other h apart = r.others k other h (λ same. apart (ap suc same))

pub one_main : AcceptedFilesHaveOneMain
one_main statements units e =
    let n : Nothing statements units = nothing_broken statements units e in
    let us = units_of statements in
    let among : breaks_among us ≡ [] = right_none (end_breaks statements ++ statement_breaks statements) (breaks_among us) n.none in
    let three : main_breaks us ++ unit_breaks us ++ name_breaks 0 us ≡ [] = left_none (main_breaks us ++ unit_breaks us ++ name_breaks 0 us) (flat_map (λ unit. breaks_in unit.listing) us) among in
    let two : main_breaks us ++ unit_breaks us ≡ [] = left_none (main_breaks us ++ unit_breaks us) (name_breaks 0 us) three in
    let of_mains : main_breaks us ≡ [] = left_none (main_breaks us) (unit_breaks us) two in
    let any = list_any (λ unit. is_main unit.listing) us in
    let found : not any ≡ false = kept_when (not any) no_program (left_none (when (not any) no_program) (second_mains false us) of_mains) in
    let seconds : second_mains false us ≡ [] = right_none (when (not any) no_program) (second_mains false us) of_mains in
    subst HasOneMain n.made (one_among us seconds (is_there any found) (λ k u f. let m = mapped (cut statements) k u f in λ none. have_statements statements k m.0 m.1 (ap (λ (w : ProgramUnit). w.listing) (sym m.2) ∙ none)))
  where
    is_there : (b : Bool) → not b ≡ false → b ≡ true
    is_there true e = refl
    is_there false e = absurd cc
