-- Lemmas on a commit of partial results, step by step.
use Rattle.std.proofs.Common.{◌≡◌, ◌≢◌, ℕ, suc, ℤ, ◌<◌, inl, inr, List, length, get_or, Option, Some, None, sym, ap, ◌∙◌}
use Rattle.std.specs.Prelude.{slice_set}
use Rattle.std.proofs.lemmas.Bool.{cases_eq}
use Rattle.std.proofs.lemmas.List.{get_or-set_same, get_or-set_other}
use Rattle.hyb_base.specs.declared.ops.RedOp.{RedOp}
use Rattle.hyb_base.specs.Count.{next_count}
use Rattle.hyb_base.specs.Reduction.{apply}
use Rattle.red_ops.specs.Partials.{combined, reads_after}

-- what is left to be combined, over the values so far, stays the same when one partial result is
pub one_combined : (op_of : ℕ → RedOp) (old new : ℕ → Option ℤ) (values after : List ℤ) (address : ℕ) (partial value : ℤ) → old address ≡ Some partial → new address ≡ None → ((a : ℕ) → a ≢ address → new a ≡ old a) → ((d : ℤ) → get_or values address d ≡ value) → after ≡ slice_set values address (apply (op_of address) value partial) → address < length values → (a : ℕ) (d : ℤ) → combined (op_of a) (new a) (get_or after a d) ≡ combined (op_of a) (old a) (get_or values a d)
one_combined op_of old new values after address partial value was taken others read put within a d =
    elim (cases_eq a address) [
      | inl e ↦
          ap (λ o. combined (op_of a) o (get_or after a d)) (ap new e ∙ taken)
          ∙ ap (λ z. get_or z a d) put ∙ ap (λ k. get_or (slice_set values address (apply (op_of address) value partial)) k d) e ∙ get_or-set_same values address (apply (op_of address) value partial) d within
          ∙ ap (λ x. apply (op_of address) x partial) (sym (read d))
          ∙ sym (ap (λ k. combined (op_of k) (old k) (get_or values k d)) e ∙ ap (λ o. combined (op_of address) o (get_or values address d)) was)
      | inr e ↦
          ap (λ o. combined (op_of a) o (get_or after a d)) (others a e)
          ∙ ap (combined (op_of a) (old a)) (ap (λ z. get_or z a d) put ∙ get_or-set_other values address a (apply (op_of address) value partial) d e)
    ]

-- the reads so far and what is left to be read
pub one_read : (reads after left left' : ℕ) → after ≡ next_count reads → left ≡ suc left' → reads_after left' after ≡ reads_after left reads
one_read reads after left left' a l = ap (reads_after left') a ∙ sym (ap (λ n. reads_after n reads) l)
