-- Where the code of a statement begins.
use Rattle.std.proofs.Common.{◌≡◌, ℕ, zero, suc, ◌+◌, ◌<◌, ◌∷◌, ◌++◌, pos, List, [], length, drop, Some, refl, ap, ◌∙◌, arith, slice_get}
use Rattle.std.specs.Prelude.{slice_index_or}
use Rattle.std.proofs.Math.Seq.{drop-append-add}
use Rattle.f77_ast.specs.declared.code.Instr.{Instr}
use Rattle.f77_ast.specs.declared.program.Layout.{Layout}
use Rattle.f77_ast.specs.declared.program.Listed.{Listed}
use Rattle.f77_ast.specs.declared.program.Loop.{Loop}
use Rattle.f77_structure.specs.Units.{next_place}
use Rattle.f77_code.specs.Statements.{statement_code}
use Rattle.f77_code.specs.Units.{instrs_from, nexts_from, starts_from}

module _ (loops : List Loop) (layout : Layout) (unit : ℕ) where
  -- the code of the statement at a place, and what comes after it
  pub record Begins (number before at : ℕ) (listing : List Listed) (listed : Listed) : Type 0 where
    pub offset : ℕ
    pub following : List Listed
    pub start : slice_index_or (starts_from loops layout unit number before listing) at (pos 0) ≡ pos (before + offset)
    pub code : drop offset (instrs_from loops layout unit number listing) ≡ statement_code loops layout unit (number + at) listed.stmt ++ instrs_from loops layout unit (suc (number + at)) following

  pub begins : (number before at : ℕ) (listing : List Listed) (listed : Listed) → slice_get listing at ≡ Some listed → Begins number before at listing listed
  begins number before at [] listed e = absurd (cc)
  begins number before zero (x ∷ xs) listed e =
      let same : x ≡ listed = cc in
      record {
        offset = 0;
        following = xs;
        start = ap pos (none_more before);
        code = (λ i. statement_code loops layout unit (none_more number i) (same i).stmt ++ instrs_from loops layout unit (suc (none_more number i)) xs);
      }
    where
      none_more : (n : ℕ) → n ≡ n + 0
      none_more n = omega arith
  begins number before (suc at) (x ∷ xs) listed e =
      let here : List Instr = statement_code loops layout unit number x.stmt in
      let b : Begins (suc number) (before + length here) at xs listed = begins (suc number) (before + length here) at xs listed e in
      record {
        offset = length here + b.offset;
        following = b.following;
        start = b.start ∙ ap pos (grouped before (length here) b.offset);
        code =
            drop-append-add here (instrs_from loops layout unit (suc number) xs) b.offset
            ∙ b.code
            ∙ ap (λ n. statement_code loops layout unit n listed.stmt ++ instrs_from loops layout unit (suc n) b.following) (moved number at);
      }
    where
      grouped : (a b c : ℕ) → a + b + c ≡ a + (b + c)
      grouped a b c = omega arith

      moved : (n k : ℕ) → suc n + k ≡ n + suc k
      moved n k = omega arith

  -- each statement has its start
  pub starts_length : (number before : ℕ) (listing : List Listed) → length (starts_from loops layout unit number before listing) ≡ length listing
  starts_length number before [] = refl
  starts_length number before (x ∷ xs) = ap suc (starts_length (suc number) (before + length (statement_code loops layout unit number x.stmt)) xs)

-- and the place at which control goes on
pub next_at : (listing : List Listed) (first at : ℕ) (following : List Listed) → at < length following → slice_get (nexts_from listing first following) at ≡ Some (pos (next_place listing (first + at)))
next_at listing first at [] h = absurd (omega (arith, h))
next_at listing first zero (x ∷ xs) h = ap (λ n. Some (pos (next_place listing n))) (none_more first)
  where
    none_more : (n : ℕ) → n ≡ n + 0
    none_more n = omega arith
next_at listing first (suc at) (x ∷ xs) h = next_at listing (suc first) at xs (omega (arith, h)) ∙ ap (λ n. Some (pos (next_place listing n))) (moved first at)
  where
    moved : (n k : ℕ) → suc n + k ≡ n + suc k
    moved n k = omega arith
