-- How a file is cut into units, statement by statement.
use Rattle.std.proofs.Common.{◌≡◌, Bool, true, false, List, [], ◌∷◌, ◌++◌, map, if◌then◌else◌, refl, sym, ap, ◌∙◌, append_assoc}
use Rattle.f77_ast.specs.declared.program.Listed.{Listed}
use Rattle.f77_ast.specs.declared.program.Unit.{Unit as ProgramUnit}
use Rattle.f77_structure.specs.Statements.{is_end}
use Rattle.f77_structure.specs.Units.{onto_first, cut, without_end, unit_of}

-- the units of some statements, the first of which belong to a unit that is begun with these
abbrev pub cut_from : List Listed → List Listed → List (List Listed)
cut_from begun [] = without_end begun
cut_from begun (listed ∷ following) = if is_end listed.stmt then (begun ++ listed ∷ []) ∷ cut_from [] following else cut_from (begun ++ listed ∷ []) following

-- a unit that is begun, before the units of the statements behind it
abbrev joined : List Listed → List (List Listed) → List (List Listed)
joined [] units = units
joined (first ∷ begun) [] = (first ∷ begun) ∷ []
joined (first ∷ begun) (unit ∷ units) = ((first ∷ begun) ++ unit) ∷ units

joined_more : (begun : List Listed) (listed : Listed) (units : List (List Listed)) → joined (begun ++ listed ∷ []) units ≡ joined begun (onto_first listed units)
joined_more [] listed [] = refl
joined_more [] listed (unit ∷ units) = refl
joined_more (first ∷ begun) listed [] = refl
joined_more (first ∷ begun) listed (unit ∷ units) = ap (λ l. (first ∷ l) ∷ units) (append_assoc begun (listed ∷ []) unit)

joined_end : (begun : List Listed) (listed : Listed) (units : List (List Listed)) → (begun ++ listed ∷ []) ∷ units ≡ joined begun ((listed ∷ []) ∷ units)
joined_end [] listed units = refl
joined_end (first ∷ begun) listed units = refl

joined_none : (begun : List Listed) → cut_from begun [] ≡ joined begun []
joined_none [] = refl
joined_none (first ∷ begun) = refl

cut_turn : (begun : List Listed) (listed : Listed) (following : List Listed) → cut_from begun (listed ∷ following) ≡ (if is_end listed.stmt then (begun ++ listed ∷ []) ∷ cut_from [] following else cut_from (begun ++ listed ∷ []) following)
cut_turn begun listed following = refl

cut_from-joined : (begun following : List Listed) → cut_from begun following ≡ joined begun (cut following)
cut_from-joined begun [] = joined_none begun
cut_from-joined begun (listed ∷ following) =
    cut_turn begun listed following
    ∙ by (is_end listed.stmt) (cut_from-joined [] following) (cut_from-joined (begun ++ listed ∷ []) following)
  where
    by : (b : Bool) → cut_from [] following ≡ cut following → cut_from (begun ++ listed ∷ []) following ≡ joined (begun ++ listed ∷ []) (cut following) → (if b then (begun ++ listed ∷ []) ∷ cut_from [] following else cut_from (begun ++ listed ∷ []) following) ≡ joined begun (if b then (listed ∷ []) ∷ cut following else onto_first listed (cut following))
    by true none more = ap (λ us. (begun ++ listed ∷ []) ∷ us) none ∙ joined_end begun listed (cut following)
    by false none more = more ∙ joined_more begun listed (cut following)

-- the units of a file, before its first statement
pub cut_start : (statements : List Listed) → cut_from [] statements ≡ cut statements
cut_start statements = cut_from-joined [] statements

-- one statement more, which ends the unit or doesn't
pub cut_on : (units all : List ProgramUnit) (begun following left : List Listed) (listed : Listed) → left ≡ listed ∷ following → is_end listed.stmt ≡ false → units ++ map unit_of (cut_from begun left) ≡ all → units ++ map unit_of (cut_from (begun ++ listed ∷ []) following) ≡ all
cut_on units all begun following left listed e ends so_far =
    sym (ap (λ l. units ++ map unit_of (cut_from begun l)) e ∙ ap (λ us. units ++ map unit_of us) (cut_turn begun listed following) ∙ ap (λ b. units ++ map unit_of (if b then (begun ++ listed ∷ []) ∷ cut_from [] following else cut_from (begun ++ listed ∷ []) following)) ends)
    ∙ so_far

pub cut_off : (units all : List ProgramUnit) (begun following left : List Listed) (listed : Listed) → left ≡ listed ∷ following → is_end listed.stmt ≡ true → units ++ map unit_of (cut_from begun left) ≡ all → (units ++ unit_of (begun ++ listed ∷ []) ∷ []) ++ map unit_of (cut_from [] following) ≡ all
cut_off units all begun following left listed e ends so_far =
    append_assoc units (unit_of (begun ++ listed ∷ []) ∷ []) (map unit_of (cut_from [] following))
    ∙ sym (ap (λ l. units ++ map unit_of (cut_from begun l)) e ∙ ap (λ us. units ++ map unit_of us) (cut_turn begun listed following) ∙ ap (λ b. units ++ map unit_of (if b then (begun ++ listed ∷ []) ∷ cut_from [] following else cut_from (begun ++ listed ∷ []) following)) ends)
    ∙ so_far
