-- A symbol in the place of an index is that index with the symbol's numbers, and its worth.
use Rattle.std.proofs.Common.{◌≡◌, ℕ, ◌+◌, ◌*◌, ◌<◌, ◌==◌, ℤ, pos, ◌+ℤ◌, ◌*ℤ◌, Bool, true, false, List, length, Option, Some, slice_get, slice_set, unwrap_or, if◌then◌else◌, refl, ap, sym, subst, ◌∙◌, arith, zero, suc, zero-mul, suc-mul}
use Rattle.std.proofs.lemmas.Int.{int_wrap_fits, SFits-int_wrap}
use Rattle.std.proofs.lemmas.Bool.{eqb-true, eqb-false}
use Rattle.hyb_base.specs.declared.env.Env.{Env}
use Rattle.hyb_base.specs.Wrap.{wrapped}
use Rattle.sym_lmad.specs.declared.sym.Sym.{Sym}
use Rattle.sym_lmad.specs.declared.sym.Sym.TheVariants as s
use Rattle.sym_lmad.specs.Bindings.{region_of}
use Rattle.sym_lmad.specs.Gain.{at_index}
use Rattle.sym_lmad.specs.Naming.{reads_of, reads_step}
use Rattle.sym_lmad.specs.Numbers.{Numbers, numbers_at, numbers_step, numbers_of, run_of, whole_of, element_or_zero}
use Rattle.sym_lmad.specs.Put.{put_of, put_step, namings_of, namings_step, PutKeepsNumbers, PutKeepsWorth, PutReadsEnds}
use Rattle.sym_lmad.specs.Worth.{near_by, sum_by, multiple_by, first_by, element_by, worth_step, worth_of}
use Rattle.sym_lmad.proofs.Lists.{get_same, get_other}
use Rattle.sym_lmad.proofs.NumberLaws.{wraps_once, worth_near}
use Rattle.sym_lmad.proofs.Symbols.{induction, fold_lit, fold_addr, fold_cell, fold_elem, fold_index, fold_add, fold_mul}
use mir.Syntax.{w64}

-- the value of an index after it is set
index_is : (indices : List ℤ) (i k : ℕ) (z : ℤ) (b : Bool) → i < length indices → (k == i) ≡ b → slice_get (slice_set indices i z) k ≡ (if b then Some z else slice_get indices k)
index_is indices i k z true place e = subst (λ m. slice_get (slice_set indices i z) m ≡ Some z) (sym (eqb-true k i e)) (get_same indices i z place)
index_is indices i k z false place e = get_other indices i k z (eqb-false k i e)

module _ (env : Env) (values : List ℤ) (index : ℕ) (place : index < length env.indices) (end : Sym) where
  abbrev put : Sym → Sym
  put x = put_of index end x

  module _ (z : ℤ) where
    abbrev there : Env
    there = at_index env index z

    -- a number of a symbol with the end, by the symbol's number at z
    abbrev Keeps : (pick : Numbers → ℤ) → Sym → Type 0
    Keeps pick x = pick (numbers_of env values (put x)) ≡ pick (numbers_of there values x)

    -- through the equations of the put symbol, of its numbers, and of the symbol's numbers there
    through : (pick : Numbers → ℤ) (x y : Sym) (m n : Numbers) → put x ≡ y → numbers_of env values y ≡ m → numbers_of there values x ≡ n → pick m ≡ pick n → Keeps pick x
    through pick x y m n p a b h = ap (λ t. pick (numbers_of env values t)) p ∙ ap pick a ∙ h ∙ ap pick (sym b)

    abbrev run : Numbers → ℤ
    run n = n.run

    abbrev whole : Numbers → ℤ
    whole n = n.whole

    put_index : (k : ℕ) (b : Bool) → (k == index) ≡ b → put (s.Index k) ≡ (if b then end else s.Index k)
    put_index k b e = fold_index Sym (put_step index end) k ∙ ap (λ c. if c then end else s.Index k) e

    index_there : (k : ℕ) (b : Bool) → (k == index) ≡ b → unwrap_or (slice_get (slice_set env.indices index z) k) (pos 0) ≡ unwrap_or (if b then Some z else slice_get env.indices k) (pos 0)
    index_there k b e = ap (λ o. unwrap_or o (pos 0)) (index_is env.indices index k z b place e)

    index_keeps : (pick : Numbers → ℤ) (k : ℕ) → pick (numbers_of env values end) ≡ pick (numbers_at z) → Keeps pick (s.Index k)
    index_keeps pick k h = go (k == index) refl
      where
        go : (b : Bool) → (k == index) ≡ b → Keeps pick (s.Index k)
        go true e = through pick (s.Index k) end (numbers_of env values end) _ (put_index k true e) refl (fold_index Numbers (numbers_step there values) k) (h ∙ ap (λ v. pick (numbers_at v)) (sym (index_there k true e)))
        go false e = through pick (s.Index k) (s.Index k) _ _ (put_index k false e) (fold_index Numbers (numbers_step env values) k) (fold_index Numbers (numbers_step there values) k) (ap (λ v. pick (numbers_at v)) (sym (index_there k false e)))

    lit_keeps : (pick : Numbers → ℤ) (v : ℤ) → Keeps pick (s.Lit v)
    lit_keeps pick v = through pick (s.Lit v) (s.Lit v) _ _ (fold_lit Sym (put_step index end) v) (fold_lit Numbers (numbers_step env values) v) (fold_lit Numbers (numbers_step there values) v) refl

    addr_keeps : (pick : Numbers → ℤ) (e : ℕ) → Keeps pick (s.Addr e)
    addr_keeps pick e = through pick (s.Addr e) (s.Addr e) _ _ (fold_addr Sym (put_step index end) e) (fold_addr Numbers (numbers_step env values) e) (fold_addr Numbers (numbers_step there values) e) refl

    cell_keeps : (pick : Numbers → ℤ) (e : ℕ) → Keeps pick (s.Cell e)
    cell_keeps pick e = through pick (s.Cell e) (s.Cell e) _ _ (fold_cell Sym (put_step index end) e) (fold_cell Numbers (numbers_step env values) e) (fold_cell Numbers (numbers_step there values) e) refl

    elem_keeps : (pick : Numbers → ℤ) (e : ℕ) (x : Sym) → Keeps run x → Keeps pick (s.Elem e x)
    elem_keeps pick e x h = through pick (s.Elem e x) (s.Elem e (put x)) _ _ (fold_elem Sym (put_step index end) e x) (fold_elem Numbers (numbers_step env values) e (put x)) (fold_elem Numbers (numbers_step there values) e x) (ap (λ r. pick (numbers_at (element_or_zero values (first_by (slice_get env.bases e)) r))) h)

    put_run : run_of env values end ≡ wrapped z → (x : Sym) → Keeps run x
    put_run is_z = induction (Keeps run) (record {
      at_lit = lit_keeps run;
      at_addr = addr_keeps run;
      at_cell = cell_keeps run;
      at_elem = elem_keeps run;
      at_index = λ k. index_keeps run k is_z;
      at_add = λ x y h k. through run (s.Add x y) (s.Add (put x) (put y)) _ _ (fold_add Sym (put_step index end) x y) (fold_add Numbers (numbers_step env values) (put x) (put y)) (fold_add Numbers (numbers_step there values) x y) (λ i. wrapped (h i +ℤ k i));
      at_mul = λ c x h. through run (s.Mul c x) (s.Mul c (put x)) _ _ (fold_mul Sym (put_step index end) c x) (fold_mul Numbers (numbers_step env values) c (put x)) (fold_mul Numbers (numbers_step there values) c x) (λ i. wrapped (c *ℤ h i));
    })

    put_whole : whole_of env values end ≡ z → (x : Sym) → Keeps whole x
    put_whole is_z = induction (Keeps whole) (record {
      at_lit = lit_keeps whole;
      at_addr = addr_keeps whole;
      at_cell = cell_keeps whole;
      at_elem = λ e x h. elem_keeps whole e x (put_run (wraps_once env values end ∙ ap wrapped is_z) x);
      at_index = λ k. index_keeps whole k is_z;
      at_add = λ x y h k. through whole (s.Add x y) (s.Add (put x) (put y)) _ _ (fold_add Sym (put_step index end) x y) (fold_add Numbers (numbers_step env values) (put x) (put y)) (fold_add Numbers (numbers_step there values) x y) (λ i. h i +ℤ k i);
      at_mul = λ c x h. through whole (s.Mul c x) (s.Mul c (put x)) _ _ (fold_mul Sym (put_step index end) c x) (fold_mul Numbers (numbers_step env values) c (put x)) (fold_mul Numbers (numbers_step there values) c x) (λ i. c *ℤ h i);
    })

    abbrev KeepsWorth : Sym → Type 0
    KeepsWorth x = worth_of env values (put x) ≡ worth_of there values x

    by_worth : (x y : Sym) (m n : Option ℤ) → put x ≡ y → worth_of env values y ≡ m → worth_of there values x ≡ n → m ≡ n → KeepsWorth x
    by_worth x y m n p a b h = ap (worth_of env values) p ∙ a ∙ h ∙ sym b

    put_worth : worth_of env values end ≡ Some z → (x : Sym) → KeepsWorth x
    put_worth is_z = induction KeepsWorth (record {
      at_lit = λ v. by_worth (s.Lit v) (s.Lit v) _ _ (fold_lit Sym (put_step index end) v) (fold_lit (Option ℤ) (worth_step env values) v) (fold_lit (Option ℤ) (worth_step there values) v) refl;
      at_addr = λ e. by_worth (s.Addr e) (s.Addr e) _ _ (fold_addr Sym (put_step index end) e) (fold_addr (Option ℤ) (worth_step env values) e) (fold_addr (Option ℤ) (worth_step there values) e) refl;
      at_cell = λ e. by_worth (s.Cell e) (s.Cell e) _ _ (fold_cell Sym (put_step index end) e) (fold_cell (Option ℤ) (worth_step env values) e) (fold_cell (Option ℤ) (worth_step there values) e) refl;
      at_elem = λ e x h. by_worth (s.Elem e x) (s.Elem e (put x)) _ _ (fold_elem Sym (put_step index end) e x) (fold_elem (Option ℤ) (worth_step env values) e (put x)) (fold_elem (Option ℤ) (worth_step there values) e x) (ap (element_by env values (first_by (slice_get env.bases e)) (region_of env e)) h);
      at_index = λ k. by_index k (k == index) refl;
      at_add = λ x y h k. by_worth (s.Add x y) (s.Add (put x) (put y)) _ _ (fold_add Sym (put_step index end) x y) (fold_add (Option ℤ) (worth_step env values) (put x) (put y)) (fold_add (Option ℤ) (worth_step there values) x y) (λ i. sum_by (h i) (k i));
      at_mul = λ c x h. by_worth (s.Mul c x) (s.Mul c (put x)) _ _ (fold_mul Sym (put_step index end) c x) (fold_mul (Option ℤ) (worth_step env values) c (put x)) (fold_mul (Option ℤ) (worth_step there values) c x) (ap (multiple_by c) h);
    })
      where
        by_index : (k : ℕ) (b : Bool) → (k == index) ≡ b → KeepsWorth (s.Index k)
        by_index k true e = by_worth (s.Index k) end (Some z) _ (put_index k true e) is_z (fold_index (Option ℤ) (worth_step there values) k) (sym (ap near_by (index_is env.indices index k z true place e) ∙ worth_near env values end z is_z))
        by_index k false e = by_worth (s.Index k) (s.Index k) _ _ (put_index k false e) (fold_index (Option ℤ) (worth_step env values) k) (fold_index (Option ℤ) (worth_step there values) k) (ap near_by (sym (index_is env.indices index k z false place e)))

pub put_keeps_numbers : PutKeepsNumbers
put_keeps_numbers env values index end x place =
    let again : run_of env values end ≡ wrapped (run_of env values end) = wraps_once env values end ∙ sym (int_wrap_fits w64 (wrapped (whole_of env values end)) (SFits-int_wrap w64 (whole_of env values end))) ∙ ap wrapped (sym (wraps_once env values end)) in
    (put_run env values index place end (run_of env values end) again x, put_whole env values index place end (whole_of env values end) refl x)

pub put_keeps_worth : PutKeepsWorth
put_keeps_worth env values index end x v place h = put_worth env values index place end v h x

-- n of one and m of another are n + m of both
shared : (a b n m r : ℕ) → (a + n * r) + (b + m * r) ≡ (a + b) + (n + m) * r
shared a b zero m r = omega (arith, zero-mul r)
shared a b (suc n) m r = let h : (a + n * r) + (b + m * r) ≡ (a + b) + (n + m) * r = shared a b n m r in omega (arith, suc-mul n r, suc-mul (n + m) r, h)

module _ (index : ℕ) (end : Sym) where
  abbrev ReadsSo : Sym → Type 0
  ReadsSo x = reads_of (put_of index end x) ≡ reads_of x + namings_of index x * reads_of end

  by_reads : (x y : Sym) (m a n : ℕ) → put_of index end x ≡ y → reads_of y ≡ m → reads_of x ≡ a → namings_of index x ≡ n → m ≡ a + n * reads_of end → ReadsSo x
  by_reads x y m a n p q r t h = ap reads_of p ∙ q ∙ h ∙ (λ i. sym r i + sym t i * reads_of end)

  pub reads_ends : (x : Sym) → ReadsSo x
  reads_ends = induction ReadsSo (record {
    at_lit = λ v. by_reads (s.Lit v) (s.Lit v) 0 0 0 (fold_lit Sym (put_step index end) v) (fold_lit ℕ reads_step v) (fold_lit ℕ reads_step v) (fold_lit ℕ (namings_step index) v) (omega arith);
    at_addr = λ e. by_reads (s.Addr e) (s.Addr e) 0 0 0 (fold_addr Sym (put_step index end) e) (fold_addr ℕ reads_step e) (fold_addr ℕ reads_step e) (fold_addr ℕ (namings_step index) e) (omega arith);
    at_cell = λ e. by_reads (s.Cell e) (s.Cell e) 1 1 0 (fold_cell Sym (put_step index end) e) (fold_cell ℕ reads_step e) (fold_cell ℕ reads_step e) (fold_cell ℕ (namings_step index) e) (omega arith);
    at_elem = λ e x h. by_reads (s.Elem e x) (s.Elem e (put_of index end x)) (reads_of (put_of index end x) + 1) (reads_of x + 1) (namings_of index x) (fold_elem Sym (put_step index end) e x) (fold_elem ℕ reads_step e (put_of index end x)) (fold_elem ℕ reads_step e x) (fold_elem ℕ (namings_step index) e x) (omega (arith, h));
    at_index = λ k. by_index k (k == index) refl;
    at_add = λ x y h k. by_reads (s.Add x y) (s.Add (put_of index end x) (put_of index end y)) _ _ _ (fold_add Sym (put_step index end) x y) (fold_add ℕ reads_step (put_of index end x) (put_of index end y)) (fold_add ℕ reads_step x y) (fold_add ℕ (namings_step index) x y) ((λ i. h i + k i) ∙ shared (reads_of x) (reads_of y) (namings_of index x) (namings_of index y) (reads_of end));
    at_mul = λ c x h. by_reads (s.Mul c x) (s.Mul c (put_of index end x)) _ _ _ (fold_mul Sym (put_step index end) c x) (fold_mul ℕ reads_step c (put_of index end x)) (fold_mul ℕ reads_step c x) (fold_mul ℕ (namings_step index) c x) h;
  })
    where
      by_index : (k : ℕ) (b : Bool) → (k == index) ≡ b → ReadsSo (s.Index k)
      by_index k true e = by_reads (s.Index k) end (reads_of end) 0 1 (fold_index Sym (put_step index end) k ∙ ap (λ c. if c then end else s.Index k) e) refl (fold_index ℕ reads_step k) (fold_index ℕ (namings_step index) k ∙ ap (λ c. if c then 1 else 0) e) (omega arith)
      by_index k false e = by_reads (s.Index k) (s.Index k) 0 0 0 (fold_index Sym (put_step index end) k ∙ ap (λ c. if c then end else s.Index k) e) (fold_index ℕ reads_step k) (fold_index ℕ reads_step k) (fold_index ℕ (namings_step index) k ∙ ap (λ c. if c then 1 else 0) e) (omega arith)

pub put_reads_ends : PutReadsEnds
put_reads_ends index end x = reads_ends index end x
