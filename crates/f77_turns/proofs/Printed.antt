-- What PRINT statements with a meaning read lies in storage.
use Rattle.std.proofs.Common.{◌≡◌, ℕ, zero, suc, ◌+◌, ◌-◌, ◌*◌, ◌<◌, ◌≤◌, ◌&&◌, ◌||◌, ℤ, Bool, true, false, List, [], ◌∷◌, length, drop, Option, None, Some, IsTrue, refl, sym, ap, ◌∙◌, arith}
use Rattle.std.specs.List.{list_all}
use Rattle.f77_ast.specs.declared.expr.Expr.{Expr}
use Rattle.f77_ast.specs.declared.program.Entity.{Entity}
use Rattle.f77_ast.specs.declared.program.Place.{Place}
use Rattle.f77_ast.specs.declared.program.Place.TheVariants.{Stored, Dummy, Constant}
use Rattle.f77_ast.specs.declared.stmt.Item.{Item}
use Rattle.f77_ast.specs.declared.stmt.Item as item
use Rattle.f77_structure.specs.Arrays.{array_named}
use Rattle.f77_structure.specs.HasMeaning.{expr_has_meaning, is_integer_vector, item_has_meaning}
use Rattle.f77_structure.specs.Storage.{IsStorage, LiesIn, elements_of, is_stored, is_vector, start_by, start_of}
use Rattle.f77_structure.specs.Values.{Value, is_integer_kind}
use Rattle.f77_meaning.specs.Demand.{Demand, gives, wants, calls, fails, Setting, demand_of, place_of, width}
use Rattle.f77_meaning.specs.Print.{Printed, Printing, asks, enters, whole, stops, after_array_or_value, after_elements, after_item, after_items, after_value, element_after, next_cell, next_item, printed_of, text_of, with_text, within_limit}
use Rattle.f77_meaning.specs.Process.{Frame}
use Rattle.f77_turns.proofs.Arrays.{IfLies, named_lies, names_none}
use Rattle.f77_turns.proofs.Cells.{Any, Asks, both, in_storage, one_cell, value_asks}
use Rattle.f77_turns.proofs.Expressions.{demand_asks}

module _ (s : Setting) (storage : IsStorage s.program.layout) where
  abbrev total : ℕ
  total = length s.program.layout.first

  -- a PRINT asks for an address of storage, where it asks, and enters no unit
  abbrev pub PrintsIn : Printed → Type 0
  PrintsIn (asks address by p) = address < total
  PrintsIn (enters unit bindings p) = ⊥
  PrintsIn (whole line) = Unit {0}
  PrintsIn (stops fault) = Unit {0}

  limit_in : (o : Option (List ℕ)) (go : List ℕ → Printed) → ((line : List ℕ) → PrintsIn (go line)) → PrintsIn (within_limit o go)
  limit_in None go h = tt
  limit_in (Some line) go h = h line

  value_in : (d : Demand Value) (p : Printing) (go : List ℕ → Printed) → Asks total Any d → ((line : List ℕ) → PrintsIn (go line)) → PrintsIn (after_value d p go)
  value_in (gives value rest) p go d h = limit_in (with_text p.line (text_of value)) go h
  value_in (wants address by) p go d h = d
  value_in (calls unit bindings) p go d h = d
  value_in (fails fault) p go d h = tt

  -- the element of an INTEGER array after some others
  element_in : (array : Entity) → is_integer_kind array.kind ≡ true → (place : Place) → start_by place + elements_of array ≤ total → (done : ℕ) → done < elements_of array → (answers : List ℤ) → Asks total Any (element_after s array place done answers)
  element_in array integer (Stored first) within done less answers =
      let cells : done * width array.kind array.len ≡ done * 1 = ap (λ n. done * n) (one_cell total array.kind array.len integer) in
      let address : ℕ = first + done * width array.kind array.len in
      value_asks total s (place_of s array address) (in_storage total s array address integer (omega (arith, within, less, cells))) answers
  element_in array integer (Dummy k) within done less answers = tt
  element_in array integer (Constant value) within done less answers = tt

  module _ (array : Entity) (lies : LiesIn total s.program.layout.regions array) (vector : is_integer_vector (Some array) ≡ true) where
    tests : (is_integer_kind array.kind ≡ true) × ((is_stored array.place && is_vector array.bounds) ≡ true)
    tests = both (is_integer_kind array.kind) (is_stored array.place && is_vector array.bounds) vector

    within : start_of array + elements_of array ≤ total
    within = lies.within (both (is_stored array.place) (is_vector array.bounds) tests.1).0

    elements_in : (left : ℕ) (p : Printing) (go : Printing → Printed) → left ≡ elements_of array - p.frame.cells → ((q : Printing) → PrintsIn (go q)) → PrintsIn (after_elements s array left p go)
    elements_in zero p go e h = h (next_item p p.line)
    elements_in (suc left) p go e h =
        value_in (element_after s array array.place p.frame.cells p.frame.answers) p (λ line. after_elements s array left (next_cell p line) go)
        (element_in array tests.0 array.place within p.frame.cells (omega (arith, e)) p.frame.answers) (λ line. elements_in left (next_cell p line) go (omega (arith, e)) h)

  -- one of two tests
  either : (a b : Bool) → (a || b) ≡ true → b ≡ false → a ≡ true
  either true b e f = refl
  either false b e f = let c : false ≡ true = sym f ∙ e in absurd (cc)

  -- an array that a PRINT with a meaning names is one of INTEGER
  integer_vector : (expr : Expr) (array : Entity) → IsTrue (item_has_meaning s.program.units s.program.layout s.unit (item.Plain expr)) → array_named s.program.layout s.unit expr ≡ Some array → is_integer_vector (Some array) ≡ true
  integer_vector expr array m e = by (expr_has_meaning s.program.units s.program.layout s.unit expr) refl m
    where
      by : (b : Bool) → expr_has_meaning s.program.units s.program.layout s.unit expr ≡ b → (b || is_integer_vector (array_named s.program.layout s.unit expr)) ≡ true → is_integer_vector (Some array) ≡ true
      by true h m = let c : Some array ≡ None = sym e ∙ names_none s expr h in absurd (cc)
      by false h m = sym (ap is_integer_vector e) ∙ m

  item_in : (i : Item) → IsTrue (item_has_meaning s.program.units s.program.layout s.unit i) → (p : Printing) (go : Printing → Printed) → ((q : Printing) → PrintsIn (go q)) → PrintsIn (after_item s i p go)
  item_in (item.Plain expr) m p go h = by (array_named s.program.layout s.unit expr) refl (named_lies s storage expr)
    where
      by : (o : Option Entity) → array_named s.program.layout s.unit expr ≡ o → IfLies s storage o → PrintsIn (after_array_or_value s o (demand_of s expr) p go)
      by (Some array) e lies = elements_in array lies (integer_vector expr array m e) (elements_of array - p.frame.cells) p go refl h
      by None e lies =
          value_in (demand_of s expr p.frame.answers) p (λ line. go (next_item p line))
          (demand_asks s storage expr (either (expr_has_meaning s.program.units s.program.layout s.unit expr) (is_integer_vector (array_named s.program.layout s.unit expr)) m (ap is_integer_vector e)) p.frame.answers)
          (λ line. h (next_item p line))
  item_in (item.Implied' items rest control) m p go h = h (next_item p p.line)

  items_in : (items : List Item) → IsTrue (list_all (item_has_meaning s.program.units s.program.layout s.unit) items) → (p : Printing) → PrintsIn (after_items s items p)
  items_in [] m p = tt
  items_in (first ∷ items) m p =
      let tests : (item_has_meaning s.program.units s.program.layout s.unit first ≡ true) × (list_all (item_has_meaning s.program.units s.program.layout s.unit) items ≡ true) = both (item_has_meaning s.program.units s.program.layout s.unit first) (list_all (item_has_meaning s.program.units s.program.layout s.unit) items) m in
      item_in first tests.0 p (after_items s items) (items_in items tests.1)

  -- what holds of all items holds of those behind some
  behind : (n : ℕ) (items : List Item) → IsTrue (list_all (item_has_meaning s.program.units s.program.layout s.unit) items) → IsTrue (list_all (item_has_meaning s.program.units s.program.layout s.unit) (drop n items))
  behind zero items m = m
  behind (suc n) [] m = m
  behind (suc n) (first ∷ items) m = behind n items (both (item_has_meaning s.program.units s.program.layout s.unit first) (list_all (item_has_meaning s.program.units s.program.layout s.unit) items) m).1

  -- what a PRINT reads lies in storage
  pub printed_in : (items : List Item) → IsTrue (list_all (item_has_meaning s.program.units s.program.layout s.unit) items) → (frame : Frame) (line : List ℕ) → PrintsIn (printed_of s items frame line)
  printed_in items m frame line = items_in (drop frame.items items) (behind frame.items items m) (record { frame = frame; line = line })
