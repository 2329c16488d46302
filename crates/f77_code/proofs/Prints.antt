-- The code of a PRINT comes to its step.
use Rattle.std.proofs.Common.{◌≡◌, ℕ, zero, suc, ◌-◌, ◌∷◌, ◌++◌, ℤ, Bool, true, false, cond, List, [], Option, None, Some, IsTrue, refl, sym, ap, subst, ◌∙◌, append_assoc, slice_get}
use Rattle.std.specs.Prelude.{◌||◌}
use Rattle.std.specs.List.{list_all}
use Rattle.std.specs.Option.{is_some}
use Rattle.f77_ast.specs.Entity.{entity_in, is_named, number_in}
use Rattle.f77_ast.specs.declared.code.Instr.{Instr}
use Rattle.f77_ast.specs.declared.code.Instr.TheVariants as instr
use Rattle.f77_ast.specs.declared.expr.Expr.{Expr, out-Expr, roll-out-Expr}
use Rattle.f77_ast.specs.declared.expr.Expr.TheFolds.{fold-Part, fold-roll-Expr, fold-roll-Ref, map-Expr, map-Ref}
use Rattle.f77_ast.specs.declared.expr.Expr.TheOpen.{Expr-F, Part-F, Ref-F}
use Rattle.f77_ast.specs.declared.expr.Expr.TheOpen as layer
use Rattle.f77_ast.specs.declared.expr.Part.{Part}
use Rattle.f77_ast.specs.declared.expr.Ref.{Ref, out-Ref, roll-out-Ref}
use Rattle.f77_ast.specs.declared.program.Entity.{Entity}
use Rattle.f77_ast.specs.declared.program.Program.{Program}
use Rattle.f77_ast.specs.declared.stmt.Item.{Item}
use Rattle.f77_ast.specs.declared.stmt.Item as item
use Rattle.f77_structure.specs.Arrays.{array_named, array_of_ref, array_part, array_ref, array_step, if_array}
use Rattle.f77_structure.specs.HasMeaning.{expr_has_meaning, is_integer_vector, item_has_meaning}
use Rattle.f77_structure.specs.Storage.{elements_of, is_vector}
use Rattle.f77_structure.specs.Values.{Value}
use Rattle.f77_meaning.specs.Demand.{Demand, gives, wants, calls, fails, demand_of, setting_of}
use Rattle.f77_meaning.specs.Perform.{asked, elements_shown, performed, shown, with_line}
use Rattle.f77_meaning.specs.Print.{Printed, Printing, asks, enters, whole, stops, after_array_or_value, after_elements, after_items, after_value, element_after, next_cell, next_item, text_of, with_text, within_limit}
use Rattle.f77_meaning.specs.Process.{Frame, with_done}
use Rattle.f77_meaning.specs.Step.{Move, print_move}
use Rattle.f77_code.specs.Exprs.{expr_code, place_code, ref_code, ref_layer_code}
use Rattle.f77_code.specs.Statements.{items_code, layer_place, plain_code}
use Rattle.f77_code.proofs.Entities.{HasNumber, found_at}
use Rattle.f77_code.proofs.Expressions.{entity_left, expr_leaves, first_of_two, second_of_two}

-- the array that an expression names, and the code of its place
pub record IsPlaced (entities : List Entity) (code : List Instr) (array : Entity) : Type 0 where
  pub number : ℕ
  pub is : code ≡ instr.Entity number ∷ []
  pub stands : slice_get entities number ≡ Some array

-- the first of two tests, where the other fails
either : (a : Bool) → IsTrue (a || false) → IsTrue a
either true h = refl
either false h = absurd (cc)

if_array_same : (found : Option Entity) (array : Entity) → if_array found ≡ Some array → found ≡ Some array
if_array_same None array e = absurd (cc)
if_array_same (Some x) array e = by (is_vector x.bounds) e
  where
    by : (b : Bool) → cond b (Some x) None ≡ Some array → Some x ≡ Some array
    by true e = e
    by false e = absurd (cc)

module _ (program : Program) (unit : ℕ) where
  abbrev arrays : Ref-F Expr Part Ref → Ref-F (Option Entity) (Unit {0}) (Option Entity)
  arrays = map-Ref Expr Part Ref (Option Entity) (Unit {0}) (Option Entity) (array_named program.layout unit) (fold-Part (Option Entity) (Unit {0}) (Option Entity) array_step array_part (array_ref program.layout unit)) (array_of_ref program.layout unit)

  abbrev arrays_of : Expr-F Expr Part Ref → Expr-F (Option Entity) (Unit {0}) (Option Entity)
  arrays_of = map-Expr Expr Part Ref (Option Entity) (Unit {0}) (Option Entity) (array_named program.layout unit) (fold-Part (Option Entity) (Unit {0}) (Option Entity) array_step array_part (array_ref program.layout unit)) (array_of_ref program.layout unit)

  ref_by : (z : Ref-F Expr Part Ref) (args : Option (List Expr)) (part : Option Part) (array : Entity) → array_ref program.layout unit (arrays (record z { args = args; part = part })) ≡ Some array →
      IsPlaced program.layout.entities (ref_layer_code program.layout unit (record z { args = args; part = part })) array
  ref_by z None None array e =
      let h : HasNumber program.layout.entities (number_in program.layout.entities unit z.name) array = found_at (is_named unit z.name) program.layout.entities array (if_array_same (entity_in program.layout.entities unit z.name) array e) in
      record { number = h.number; is = ap (λ n. place_code n None None) h.is; stands = h.stands }
  ref_by z (Some args) part array e = absurd (cc)
  ref_by z None (Some part) array e = absurd (cc)

  ref_placed : (r : Ref) (array : Entity) → array_of_ref program.layout unit r ≡ Some array → IsPlaced program.layout.entities (ref_code program.layout unit r) array
  ref_placed r array e =
      let z : Ref-F Expr Part Ref = out-Ref r in
      ref_by z z.args z.part array (sym (fold-roll-Ref (Option Entity) (Unit {0}) (Option Entity) array_step array_part (array_ref program.layout unit) z) ∙ ap (array_of_ref program.layout unit) (roll-out-Ref r) ∙ e)

  layer_placed : (z : Expr-F Expr Part Ref) (array : Entity) → array_step (arrays_of z) ≡ Some array → IsPlaced program.layout.entities (layer_place program.layout unit z) array
  layer_placed (layer.Int number) array e = absurd (cc)
  layer_placed (layer.Truth holds) array e = absurd (cc)
  layer_placed (layer.Chars text) array e = absurd (cc)
  layer_placed (layer.Ref r) array e = ref_placed r array e
  layer_placed (layer.Unary op x) array e = absurd (cc)
  layer_placed (layer.Binary op x y) array e = absurd (cc)
  layer_placed (layer.Paren x) array e = absurd (cc)

  -- the array that an expression names
  pub array_placed : (e : Expr) (array : Entity) → array_named program.layout unit e ≡ Some array → IsPlaced program.layout.entities (layer_place program.layout unit (out-Expr e)) array
  array_placed e array h =
      layer_placed (out-Expr e) array
      (sym (fold-roll-Expr (Option Entity) (Unit {0}) (Option Entity) array_step array_part (array_ref program.layout unit) (out-Expr e)) ∙ ap (array_named program.layout unit) (roll-out-Expr e) ∙ h)

module _ (program : Program) (texts : List (List ℕ)) (below : List Frame) where
  -- a value that joins the line
  value_shown : (p : Printing) (d : Demand Value) (go : List ℕ → Printed) (then : List ℕ → Option Move) → ((line : List ℕ) → then line ≡ Some (print_move program p.frame below p.line (go line))) →
      asked program texts below d p (λ x rest. shown program texts below x p then) ≡ Some (print_move program p.frame below p.line (after_value d p go))
  value_shown p (gives x rest) go then h = by (with_text p.line (text_of x))
    where
      by : (o : Option (List ℕ)) → with_line o then ≡ Some (print_move program p.frame below p.line (within_limit o go))
      by None = refl
      by (Some line) = h line
  value_shown p (wants address by) go then h = refl
  value_shown p (calls unit bindings) go then h = refl
  value_shown p (fails fault) go then h = refl

  -- the same move, of a PRINT that is further on
  same_move : (p : Printing) (items cells : ℕ) (answers : List ℤ) (line other : List ℕ) (q : Printed) → print_move program (with_done items cells answers p.frame) below line q ≡ print_move program p.frame below other q
  same_move p items cells answers line other (asks address by at) = refl
  same_move p items cells answers line other (enters unit bindings at) = refl
  same_move p items cells answers line other (whole text) = refl
  same_move p items cells answers line other (stops fault) = refl

  module _ (is : List Instr) where
    -- the items that are left, and the end of the line
    abbrev Shows : List Item → Printing → Type 0
    Shows items p = performed program texts below (items_code program.layout p.frame.unit items ++ instr.Print ∷ is) [] p.frame.answers p ≡ Some (print_move program p.frame below p.line (after_items (setting_of program p.frame) items p))

    -- the elements of an array
    elements_steps : (items : List Item) (u : ℕ) → ((q : Printing) → q.frame.unit ≡ u → Shows items q) → (array : Entity) (left : ℕ) (p : Printing) → p.frame.unit ≡ u →
        elements_shown program texts below array left p.frame.answers p (λ q. performed program texts below (items_code program.layout p.frame.unit items ++ instr.Print ∷ is) [] [] q)
        ≡ Some (print_move program p.frame below p.line (after_elements (setting_of program p.frame) array left p (after_items (setting_of program p.frame) items)))
    elements_steps items u shows array zero p at =
        shows (next_item p p.line) at ∙ ap Some (same_move p (suc p.frame.items) 0 [] p.line p.line (after_items (setting_of program p.frame) items (next_item p p.line)))
    elements_steps items u shows array (suc left) p at =
        value_shown p (element_after (setting_of program p.frame) array array.place p.frame.cells p.frame.answers) (λ line. after_elements (setting_of program p.frame) array left (next_cell p line) (after_items (setting_of program p.frame) items))
        (λ line. elements_shown program texts below array left [] (next_cell p line) (λ q. performed program texts below (items_code program.layout p.frame.unit items ++ instr.Print ∷ is) [] [] q))
        (λ line. elements_steps items u shows array left (next_cell p line) at ∙ ap Some (same_move p p.frame.items (suc p.frame.cells) [] line p.line (after_elements (setting_of program p.frame) array left (next_cell p line) (after_items (setting_of program p.frame) items))))

    -- an expression that is an item
    plain_steps : (items : List Item) (u : ℕ) → ((q : Printing) → q.frame.unit ≡ u → Shows items q) → (e : Expr) (p : Printing) → p.frame.unit ≡ u → (found : Option Entity) → array_named program.layout p.frame.unit e ≡ found → IsTrue (expr_has_meaning program.units program.layout p.frame.unit e || is_integer_vector found) →
        performed program texts below (cond (is_some found) (layer_place program.layout p.frame.unit (out-Expr e) ++ instr.EmitArray ∷ []) (expr_code program.layout p.frame.unit e ++ instr.Emit ∷ []) ++ (items_code program.layout p.frame.unit items ++ instr.Print ∷ is)) [] p.frame.answers p
        ≡ Some (print_move program p.frame below p.line (after_array_or_value (setting_of program p.frame) found (demand_of (setting_of program p.frame) e) p (after_items (setting_of program p.frame) items)))
    plain_steps items u shows e p same None h m =
        let behind : List Instr = items_code program.layout p.frame.unit items ++ instr.Print ∷ is in
        ap (λ c. performed program texts below c [] p.frame.answers p) (append_assoc (expr_code program.layout p.frame.unit e) (instr.Emit ∷ []) behind)
        ∙ (expr_leaves program texts below p e (either (expr_has_meaning program.units program.layout p.frame.unit e) m)).leaves (instr.Emit ∷ behind) [] p.frame.answers
        ∙ value_shown p (demand_of (setting_of program p.frame) e p.frame.answers) (λ line. after_items (setting_of program p.frame) items (next_item p line)) (λ line. performed program texts below behind [] [] (next_item p line))
        (λ line. shows (next_item p line) same ∙ ap Some (same_move p (suc p.frame.items) 0 [] line p.line (after_items (setting_of program p.frame) items (next_item p line))))
    plain_steps items u shows e p same (Some array) h m =
        let behind : List Instr = items_code program.layout p.frame.unit items ++ instr.Print ∷ is in
        let at : IsPlaced program.layout.entities (layer_place program.layout p.frame.unit (out-Expr e)) array = array_placed program p.frame.unit e array h in
        ap (λ c. performed program texts below ((c ++ instr.EmitArray ∷ []) ++ behind) [] p.frame.answers p) at.is
        ∙ entity_left program texts below p at.number array (instr.EmitArray ∷ behind) [] p.frame.answers at.stands
        ∙ elements_steps items u shows array (elements_of array - p.frame.cells) p same

    -- the items of a PRINT
    pub items_steps : (items : List Item) (u : ℕ) → IsTrue (list_all (item_has_meaning program.units program.layout u) items) → (p : Printing) → p.frame.unit ≡ u → Shows items p
    items_steps [] u m p same = refl
    items_steps (item.Plain e ∷ items) u m p same =
        let here = first_of_two (item_has_meaning program.units program.layout u (item.Plain e)) (list_all (item_has_meaning program.units program.layout u) items) m in
        let others = second_of_two (item_has_meaning program.units program.layout u (item.Plain e)) (list_all (item_has_meaning program.units program.layout u) items) m in
        ap (λ c. performed program texts below c [] p.frame.answers p) (append_assoc (plain_code program.layout p.frame.unit e) (items_code program.layout p.frame.unit items) (instr.Print ∷ is))
        ∙ plain_steps items u (items_steps items u others) e p same (array_named program.layout p.frame.unit e) refl (subst (λ v. IsTrue (item_has_meaning program.units program.layout v (item.Plain e))) (sym same) here)
    items_steps (item.Implied' list pointer control ∷ items) u m p same = absurd (cc)
