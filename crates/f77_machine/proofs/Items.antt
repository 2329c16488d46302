-- Items of a line of PRINT.
use Rattle.std.proofs.Common.{◌≡◌, ℤ, IsTrue, ◌&&◌, ℕ, zero, suc, ◌+◌, ◌-◌, ◌*◌, ◌<◌, ◌≤◌, List, [], ◌∷◌, ◌++◌, length, take, drop, get_or, Bool, true, false, None, Some, refl, subst, ap, ◌∙◌, arith}
use Rattle.std.specs.List.{list_all}
use Rattle.std.specs.Prelude.{nat_le}
use Rattle.f77_ast.specs.Limits.{most_line_bytes}
use Rattle.f77_ast.specs.declared.program.Layout.{Layout}
use Rattle.f77_ast.specs.declared.stmt.Item.{Item}
use Rattle.f77_io.specs.Line.{IsPastLimit}
use Rattle.hyb_base.specs.Decimal.{decimal_of}
use Rattle.f77_ast.specs.declared.expr.Kind.{Kind}
use Rattle.f77_ast.specs.declared.expr.Kind.TheVariants.{Integer, Logical, Character}
use Rattle.f77_ast.specs.declared.program.Entity.{Entity}
use Rattle.f77_ast.specs.declared.program.Place.{Place}
use Rattle.f77_ast.specs.declared.program.Place.TheVariants.{Stored, Dummy, Constant}
use Rattle.f77_structure.specs.HasMeaning.{is_integer_vector}
use Rattle.f77_structure.specs.Storage.{elements_of, is_stored, is_vector, region_at, start_by, start_of}
use Rattle.f77_structure.specs.Values.{integer, is_integer_kind}
use Rattle.f77_meaning.specs.Print.{Printing, Printed, asks, after_elements, after_value, element_after, next_cell, next_item, with_text, within_limit}
use Rattle.f77_meaning.specs.Demand.{Setting, and_then, cell_value, gives, value_of_bound, width}
use Rattle.f77_meaning.specs.Process.{placed}
use Rattle.f77_machine.specs.Print.{AsksWithin, BeginsWith}
use Rattle.f77_machine.specs.declared.print.Printed as machine
use Rattle.f77_machine.specs.declared.print.Printed.TheVariants.{GoesOn, Asks, Stops}
use Rattle.f77_machine.proofs.Cells.{cell_at}
use Rattle.f77_machine.proofs.Meanings.{second}
use Rattle.f77_machine.specs.Reads.{item_reads, most_reads}

-- a text goes into the line where the line isn't past its limit then
pub text_goes : (line text : List ℕ) → (IsPastLimit line text → ⊥) → with_text line text ≡ Some (line ++ (32 ∷ text))
text_goes line text within = by (nat_le (length line + (1 + length text)) most_line_bytes) refl
  where
    by : (b : Bool) → nat_le (length line + (1 + length text)) most_line_bytes ≡ b → with_text line text ≡ Some (line ++ (32 ∷ text))
    by true e = rw e refl
    by false e = absurd (within (grind (arith, e)))

-- and else it doesn't
pub text_stays : (line text : List ℕ) → IsPastLimit line text → with_text line text ≡ None
text_stays line text past = by (nat_le (length line + (1 + length text)) most_line_bytes) refl
  where
    by : (b : Bool) → nat_le (length line + (1 + length text)) most_line_bytes ≡ b → with_text line text ≡ None
    by true e = absurd (grind (arith, e, past))
    by false e = rw e refl

-- a list begins with itself
pub begins_self : {X : Type 0} (xs : List X) → BeginsWith xs xs
begins_self xs = record { shorter = omega arith; same = all xs }
  where
    all : {X : Type 0} (ys : List X) → take (length ys) ys ≡ ys
    all [] = refl
    all (y ∷ ys) = ap (λ zs. y ∷ zs) (all ys)

-- with none
pub begins_none : {X : Type 0} (xs : List X) → BeginsWith xs []
begins_none xs = record { shorter = omega arith; same = refl }

-- with what others are added to
pub begins_joined : {X : Type 0} (xs ys : List X) → BeginsWith (xs ++ ys) xs
begins_joined [] ys = record { shorter = omega arith; same = refl }
begins_joined (x ∷ xs) ys =
    let rest : BeginsWith (xs ++ ys) xs = begins_joined xs ys in
    record { shorter = omega (arith, rest.shorter); same = ap (λ zs. x ∷ zs) rest.same }

-- what begins a list that begins another begins that one
pub begins_along : {X : Type 0} (xs ys zs : List X) → BeginsWith xs ys → BeginsWith ys zs → BeginsWith xs zs
begins_along xs ys [] a b = begins_none xs
begins_along xs [] (z ∷ zs) a b = absurd (omega (arith, b.shorter))
begins_along [] (y ∷ ys) (z ∷ zs) a b = absurd (omega (arith, a.shorter))
begins_along (x ∷ xs) (y ∷ ys) (z ∷ zs) a b =
    let rest : BeginsWith xs zs = begins_along xs ys zs (record { shorter = omega (arith, a.shorter); same = cc }) (record { shorter = omega (arith, b.shorter); same = cc }) in
    record { shorter = omega (arith, rest.shorter); same = ap (λ ws. x ∷ ws) rest.same ∙ cc }

-- an item needs no more than the most of all
pub most_of : (layout : Layout) (unit place : ℕ) (items : List Item) (item : Item) → place < length items → item ≡ get_or items place item → item_reads layout unit item ≤ most_reads layout unit items
most_of layout unit place [] item h e = absurd (omega (arith, h))
most_of layout unit zero (first ∷ items) item h e =
    let same : item ≡ first = e in
    let needs : item_reads layout unit item ≡ item_reads layout unit first = ap (item_reads layout unit) same in
    omega (arith, needs)
most_of layout unit (suc place) (first ∷ items) item h e = omega (arith, most_of layout unit place items item (omega (arith, h)) e)

-- what holds of all holds of those that are left
pub all_left : (test : Item → Bool) (place : ℕ) (items : List Item) → IsTrue (list_all test items) → IsTrue (list_all test (drop place items))
all_left test zero items h = h
all_left test (suc place) [] h = h
all_left test (suc place) (item ∷ items) h = all_left test place items (second (test item) (list_all test items) h)

-- no item that is left needs more than the most of all
pub most_left : (layout : Layout) (unit place : ℕ) (items : List Item) → most_reads layout unit (drop place items) ≤ most_reads layout unit items
most_left layout unit zero items = omega arith
most_left layout unit (suc place) [] = omega arith
most_left layout unit (suc place) (item ∷ items) = omega (arith, most_left layout unit place items)

-- an INTEGER array is of INTEGER
pub kind_is : (array : Entity) → IsTrue (is_integer_vector (Some array)) → array.kind ≡ Integer
kind_is array h = by array.kind (is_stored array.place && is_vector array.bounds) h
  where
    by : (k : Kind) (b : Bool) → IsTrue (is_integer_kind k && b) → k ≡ Integer
    by Integer b h = refl
    by Logical b h = absurd (cc)
    by Character b h = absurd (cc)

-- and it is stored
pub place_is : (array : Entity) → IsTrue (is_integer_vector (Some array)) → array.place ≡ Stored (start_of array)
place_is array h = by array.place (is_vector array.bounds) (second (is_integer_kind array.kind) (is_stored array.place && is_vector array.bounds) h)
  where
    by : (place : Place) (b : Bool) → IsTrue (is_stored place && b) → place ≡ Stored (start_by place)
    by (Stored address) b h = refl
    by (Dummy k) b h = absurd (cc)
    by (Constant value) b h = absurd (cc)

pub vector_stored : (array : Entity) → IsTrue (is_integer_vector (Some array)) → is_stored array.place ≡ true
vector_stored array h = ap is_stored (place_is array h)

-- the elements of an array, each one cell
module _ (s : Setting) (array : Entity) (means : IsTrue (is_integer_vector (Some array))) where
  element_value : (done : ℕ) (answers : List ℤ) → element_after s array array.place done answers ≡ and_then (cell_value (start_of array + done) answers) (λ number rest. gives (integer number) rest)
  element_value done answers =
      ap (λ place. element_after s array place done answers) (place_is array means)
      ∙ ap (λ kind. value_of_bound s kind (placed (start_of array + done * width kind array.len) (region_at s.program.layout.regions (start_of array + done * width kind array.len)) array.len) answers) (kind_is array means)
      ∙ ap (λ n. value_of_bound s Integer (placed (start_of array + n) (region_at s.program.layout.regions (start_of array + n)) array.len) answers) (once done)
      ∙ cell_at s (start_of array + done) array.len answers
    where
      once : (n : ℕ) → n * 1 ≡ n
      once n = omega arith

  module _ (p : Printing) (go : Printing → Printed) where
    -- after the elements that are left
    abbrev left : (n : ℕ) → Printed
    left n = after_elements s array n p go

    -- one element and those that are left after it
    one_more : p.frame.cells < elements_of array → left (elements_of array - p.frame.cells) ≡ after_value (and_then (cell_value (start_of array + p.frame.cells) p.frame.answers) (λ number rest. gives (integer number) rest)) p (λ line. after_elements s array (elements_of array - (p.frame.cells + 1)) (next_cell p line) go)
    one_more h =
        let more : elements_of array - p.frame.cells ≡ suc (elements_of array - (p.frame.cells + 1)) = omega (arith, h) in
        ap left more ∙ ap (λ d. after_value d p (λ line. after_elements s array (elements_of array - (p.frame.cells + 1)) (next_cell p line) go)) (element_value p.frame.cells p.frame.answers)

    -- it is asked for
    pub element_asked : p.frame.cells < elements_of array → p.frame.answers ≡ [] → left (elements_of array - p.frame.cells) ≡ asks (start_of array + p.frame.cells) None p
    element_asked h none = one_more h ∙ ap (λ answers. after_value (and_then (cell_value (start_of array + p.frame.cells) answers) (λ number rest. gives (integer number) rest)) p (λ line. after_elements s array (elements_of array - (p.frame.cells + 1)) (next_cell p line) go)) none

    -- where it was read it goes into the line
    pub element_goes : (number : ℤ) (rest : List ℤ) → p.frame.cells < elements_of array → p.frame.answers ≡ number ∷ rest → left (elements_of array - p.frame.cells) ≡ within_limit (with_text p.line (decimal_of number)) (λ line. after_elements s array (elements_of array - (p.frame.cells + 1)) (next_cell p line) go)
    element_goes number rest h read = one_more h ∙ ap (λ answers. after_value (and_then (cell_value (start_of array + p.frame.cells) answers) (λ number rest. gives (integer number) rest)) p (λ line. after_elements s array (elements_of array - (p.frame.cells + 1)) (next_cell p line) go)) read

    -- where none is left the item is done
    pub elements_done : elements_of array ≤ p.frame.cells → left (elements_of array - p.frame.cells) ≡ go (next_item p p.line)
    elements_done h =
        let none : elements_of array - p.frame.cells ≡ 0 = omega (arith, h) in
        ap left none

-- what is asked within some needs is asked within greater ones
pub asks_within : (total need more : ℕ) (some answers : List ℤ) (r : machine.Printed) → need ≤ more → some ≡ answers → AsksWithin total need some r → AsksWithin total more answers r
asks_within total need more some answers (GoesOn at) few same a = tt
asks_within total need more some answers (Asks address by at) few same a =
    record { within = a.within; room = omega (arith, a.room, few); cells = a.cells; kept = subst (λ xs. BeginsWith xs at.answers.now) same a.kept }
asks_within total need more some answers (Stops fault) few same a = tt
