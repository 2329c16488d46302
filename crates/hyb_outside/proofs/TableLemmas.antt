-- Lemmas on names with contents.
use Rattle.std.proofs.Common.{◌≡◌, ◌≢◌, ℕ, zero, suc, ◌+◌, nat_lt, ◌<◌, ◌≤◌, Bool, true, false, not, cond, List, [], ◌∷◌, ◌++◌, length, get_or, set, None, Some, refl, sym, ap, arith, ◌∙◌}
use Rattle.std.specs.List.{position_or_len, position}
use Rattle.std.specs.Str.{bytes_eq}
use Rattle.std.proofs.lemmas.Slice.Eq.{bytes_eq-Decides}
use Rattle.std.proofs.lemmas.Grind.{common_steps}
use Rattle.hyb_outside.specs.declared.table.Named.{Named}
use Rattle.hyb_outside.specs.Table.{content_of, Replaces}

-- a name is itself
bytes_eq-same : (xs ys : List ℕ) → xs ≡ ys → bytes_eq xs ys ≡ true
bytes_eq-same xs ys e = (bytes_eq-Decides xs ys).1 e

-- another name isn't
bytes_eq-other : (xs ys : List ℕ) → ys ≢ xs → bytes_eq xs ys ≡ false
bytes_eq-other xs ys ne =
    (elim (bytes_eq xs ys) as (λ v. (v ≡ true → xs ≡ ys) → v ≡ false) [ true ↦ λ f. absurd (ne (sym (f refl))) | false ↦ λ f. refl ])
    (bytes_eq-Decides xs ys).0

-- the row at an index is the first with a name
abbrev IsFirst : List Named → List ℕ → ℕ → Named → Type 0
IsFirst [] name i row = ⊥
IsFirst (r ∷ rs) name zero row = (row ≡ r) × (bytes_eq r.name name ≡ true)
IsFirst (r ∷ rs) name (suc i) row = (bytes_eq r.name name ≡ false) × IsFirst rs name i row

-- no row has a name
abbrev NoneHas : List Named → List ℕ → Type 0
NoneHas [] name = Unit {0}
NoneHas (r ∷ rs) name = (bytes_eq r.name name ≡ false) × NoneHas rs name

-- what a length of a prefix says of its first test
len_none : (b : Bool) (n : ℕ) → cond (not b) (1 + n) 0 ≡ 0 → b ≡ true
len_none true n e = refl
len_none false n e = absurd (omega arith)

len_some : (b : Bool) (n i : ℕ) → cond (not b) (1 + n) 0 ≡ suc i → (b ≡ false) × (n ≡ i)
len_some true n i e = absurd (omega arith)
len_some false n i e = (refl, omega arith)

len_all : (b : Bool) (n m : ℕ) → suc m ≤ cond (not b) (1 + n) 0 → (b ≡ false) × (m ≤ n)
len_all true n m h = absurd (omega arith)
len_all false n m h = (refl, omega arith)

-- what `position` finds is the first with the name
first_from : (rows : List Named) (name : List ℕ) (i : ℕ) (row : Named) → position_or_len (λ (r : Named). bytes_eq r.name name) rows ≡ i → i < length rows → row ≡ get_or rows i row → IsFirst rows name i row
first_from [] name i row e h g = absurd (omega arith)
first_from (r ∷ rs) name zero row e h g = (g, len_none (bytes_eq r.name name) (position_or_len (λ (r : Named). bytes_eq r.name name) rs) e)
first_from (r ∷ rs) name (suc i) row e h g =
    let f = len_some (bytes_eq r.name name) (position_or_len (λ (r : Named). bytes_eq r.name name) rs) i e in
    let h' : i < length rs = omega arith in
    (f.0, first_from rs name i row f.1 h' g)

-- where `position` finds nothing, no row has the name
none_from : (rows : List Named) (name : List ℕ) → length rows ≤ position_or_len (λ (r : Named). bytes_eq r.name name) rows → NoneHas rows name
none_from [] name h = tt
none_from (r ∷ rs) name h =
    let f = len_all (bytes_eq r.name name) (position_or_len (λ (r : Named). bytes_eq r.name name) rs) (length rs) h in
    (f.0, none_from rs name f.1)

-- another content in the first row with the name replaces its content
first_replaced : (rows : List Named) (name content : List ℕ) (i : ℕ) (row : Named) → IsFirst rows name i row → Replaces name content (content_of rows) (content_of (set rows i (record { name = row.name; content = content })))
first_replaced [] name content i row f = absurd f
first_replaced (r ∷ rs) name content zero row f =
    let e : bytes_eq row.name name ≡ true = rw f.0 f.1 in
    let same : row.name ≡ name = (bytes_eq-Decides row.name name).0 e in
    record {
      here = rw e refl;
      others = λ other ne.
          let new_is : bytes_eq row.name other ≡ false = bytes_eq-other row.name other (λ h. ne (h ∙ same)) in
          let old_is : bytes_eq r.name other ≡ false = rw (← f.0) new_is in
          rw (new_is, old_is) refl;
    }
first_replaced (r ∷ rs) name content (suc i) row f =
    let rest = first_replaced rs name content i row f.1 in
    record {
      here = rw f.0 rest.here;
      others = λ other ne. ap (λ o. cond (bytes_eq r.name other) (Some r.content) o) (rest.others other ne);
    }

-- a row more, where none has the name, gives the name its content
none_replaced : (rows : List Named) (name content : List ℕ) → NoneHas rows name → Replaces name content (content_of rows) (content_of (rows ++ record { name = name; content = content } ∷ []))
none_replaced [] name content n = record {
  here = rw (bytes_eq-same name name refl) refl;
  others = λ other ne. rw (bytes_eq-other name other ne) refl;
}
none_replaced (r ∷ rs) name content n =
    let rest = none_replaced rs name content n.1 in
    record {
      here = rw n.0 rest.here;
      others = λ other ne. ap (λ o. cond (bytes_eq r.name other) (Some r.content) o) (rest.others other ne);
    }

-- what `position` says by its answer
some_position : (a b i : ℕ) → Some i ≡ cond (nat_lt a b) (Some a) None → (a ≡ i) × (i < b)
some_position a b i e = grind (arith, common_steps)

none_position : (a b : ℕ) → cond (nat_lt a b) (Some a) None ≡ None → b ≤ a
none_position a b e = grind (arith, common_steps)

-- the first row with a name gets another content
pub put_replaces : (rows : List Named) (name content : List ℕ) (i : ℕ) (row : Named) → Some i ≡ position (λ (r : Named). bytes_eq r.name name) rows → row ≡ get_or rows i row → Replaces name content (content_of rows) (content_of (set rows i (record { name = row.name; content = content })))
put_replaces rows name content i row e g =
    let f = some_position (position_or_len (λ (r : Named). bytes_eq r.name name) rows) (length rows) i e in
    first_replaced rows name content i row (first_from rows name i row f.0 f.1 g)

-- a row is added where no row has the name
pub push_replaces : (rows : List Named) (name content : List ℕ) → None ≡ position (λ (r : Named). bytes_eq r.name name) rows → Replaces name content (content_of rows) (content_of (rows ++ record { name = name; content = content } ∷ []))
push_replaces rows name content e = none_replaced rows name content (none_from rows name (none_position (position_or_len (λ (r : Named). bytes_eq r.name name) rows) (length rows) (sym e)))
