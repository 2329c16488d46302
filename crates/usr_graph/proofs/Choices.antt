-- A choice for the sets of nodes with a symbol without a value.
use Rattle.std.proofs.Common.{ℕ, ◌≡◌, ◌==◌, ◌⊎◌, ◌↔◌, inl, inr, ◌<◌, ℤ, negsuc, ◌+ℤ◌, ◌≤ℤ◌, true, false, List, [], ◌∷◌, length, reverse, Option, None, Some, Contains, slice_set, refl, sym, ap, ◌∙◌, subst, arith, eqb-true, ne_eqb}
use Rattle.std.proofs.lemmas.Int.{ints, by_lt_z}
use Rattle.hyb_base.specs.declared.ops.Rel.{Rel}
use Rattle.hyb_base.specs.declared.ops.Rel.TheVariants.{Eq, Ne, Lt, Le, Gt, Ge}
use Rattle.sym_lmad.specs.declared.lmad.Dim.{Dim}
use Rattle.sym_lmad.specs.declared.lmad.Extent.{Extent}
use Rattle.sym_lmad.specs.declared.lmad.Lmad.{Lmad}
use Rattle.sym_lmad.specs.declared.sym.Sym.{Sym}
use Rattle.sym_lmad.specs.Members.{IsReached, members_of, extents_by, extents_and}
use Rattle.sym_lmad.proofs.MemberLaws.{members_are_listed}
use Rattle.uses.specs.Over.{Over, Before}
use Rattle.usr_graph.specs.declared.node.Node.{Node}
use Rattle.usr_graph.specs.declared.node.Node.TheVariants as n
use Rattle.usr_graph.specs.Members.{Worth, Choice, Sets, Holds, OfPlace, Where, OverCount, IsOf, index_value, place_by, place_of, one_of, sets_of}
use Rattle.usr_graph.specs.Choice.{Value, worth_by, nothing_chosen, Extends, ChoicesExtend, SurelyEmptyIsEmpty}
use Rattle.usr_graph.proofs.Lists.{Lists, Decided, same_int, lists_none, lists_of, lists_as, lists_or, is_listed, lists_where, lists_if, negated, lists_over}
use Rattle.usr_graph.proofs.Maps.{before_map}

-- ---- lists of the members where every symbol has a value

decided : (x : ℤ) (rel : Rel) (y : ℤ) → Decided (Holds x rel y)
decided x Eq y = same_int x y
decided x Ne y = negated (x ≡ y) (same_int x y)
decided x Lt y = by_lt_z x y inl (λ h. inr (λ k. omega (arith, ints, h, k)))
decided x Le y = by_lt_z y x (λ h. inr (λ k. omega (arith, ints, h, k))) inl
decided x Gt y = by_lt_z y x inl (λ h. inr (λ k. omega (arith, ints, h, k)))
decided x Ge y = by_lt_z x y (λ h. inr (λ k. omega (arith, ints, h, k))) inl

-- at a number below a limit is at one up to the limit less 1
below : (limit : ℤ) (P : ℤ → ℤ → Type 0) → ((i : ℤ) → Lists (P i)) → Lists (λ a. Before limit (λ i. P i a))
below limit P l = lists_as (λ a. Over (limit +ℤ negsuc 0) (λ i. P i a)) _ (lists_over (limit +ℤ negsuc 0) P l)
    (λ a h. record { index = h.index; from_one = h.from_one; in_order = (let k = h.in_count in omega (arith, ints, k)); holds = h.holds })
    (λ a h. record { index = h.index; from_one = h.from_one; in_count = (let k = h.in_order in omega (arith, ints, k)); holds = h.holds })

of_place : (place : Option (ℤ × List Extent)) → Lists (λ a. OfPlace place a (Contains [] a))
of_place None = lists_of []
of_place (Some place) = record { numbers = members_of place.1 place.0; has = λ a h. (members_are_listed place.0 place.1 a).0 h; all = λ a h. (members_are_listed place.0 place.1 a).1 h }

module _ (value : Value) where
  abbrev Chosen : Sets → (id : ℕ) → Node → (indices : List ℤ) → (a : ℤ) → Type 0
  Chosen = IsOf (worth_by value) nothing_chosen

  abbrev Sets_by : List Node → Sets
  Sets_by = sets_of (worth_by value) nothing_chosen

  of_node : (sets : Sets) → ((id : ℕ) (indices : List ℤ) → Lists (λ a. sets id indices a)) → (id : ℕ) (node : Node) (indices : List ℤ) → Lists (λ a. Chosen sets id node indices a)
  of_node sets l id n.Empty indices = lists_none _ (λ a h. h)
  of_node sets l id (n.Leaf lmad) indices = of_place (place_of (λ s. worth_by value s indices) lmad)
  of_node sets l id (n.Union x y) indices = lists_or _ _ (l x indices) (l y indices)
  of_node sets l id (n.Inter x y) indices = lists_where _ _ (l x indices) (λ a. is_listed _ (l y indices) a)
  of_node sets l id (n.Minus x y) indices = lists_where _ (λ a. sets y indices a → ⊥) (l x indices) (λ a. negated (sets y indices a) (is_listed _ (l y indices) a))
  of_node sets l id (n.Gate cond body) indices = lists_if _ _ (decided (value cond.left indices) cond.rel (value cond.right indices)) (l body indices)
  of_node sets l id (n.Recur index count body) indices = lists_over (value count indices) (λ i a. sets body (slice_set indices index i) a) (λ i. l body (slice_set indices index i))
  of_node sets l id (n.Below index limit body) indices = below (index_value indices limit) (λ i a. sets body (slice_set indices index i) a) (λ i. l body (slice_set indices index i))
  of_node sets l id (n.Site site body) indices = l body indices

  listed : (nodes : List Node) (id : ℕ) (indices : List ℤ) → Lists (λ a. Sets_by nodes id indices a)
  listed [] id indices = lists_none _ (λ a h. h)
  listed (node ∷ older) id indices = elim (id == length older) as (λ t. Lists (λ a. one_of (worth_by value) nothing_chosen t (λ id. Chosen (Sets_by older) id node) (Sets_by older) id indices a)) [
    | true ↦ of_node (Sets_by older) (listed older) id node indices
    | false ↦ listed older id indices
  ]

-- ---- a descriptor keeps its place where more symbols have values

extents_kept : (f g : Sym → Option ℤ) → ((s : Sym) (v : ℤ) → f s ≡ Some v → g s ≡ Some v) → (dims : List Dim) (es : List Extent) → extents_by f dims ≡ Some es → extents_by g dims ≡ Some es
extents_kept f g keep [] es h = h
extents_kept f g keep (d ∷ ds) es h = go (f d.count) (extents_by f ds) refl refl h (extents_kept f g keep ds)
  where
    go : (v : Option ℤ) (rest : Option (List Extent)) → f d.count ≡ v → extents_by f ds ≡ rest → extents_and d.stride v rest ≡ Some es → ((xs : List Extent) → extents_by f ds ≡ Some xs → extents_by g ds ≡ Some xs) → extents_and d.stride (g d.count) (extents_by g ds) ≡ Some es
    go None rest p q k later = absurd (cc)
    go (Some v) None p q k later = absurd (cc)
    go (Some v) (Some xs) p q k later = ap (λ o. extents_and d.stride o (extents_by g ds)) (keep d.count v p) ∙ ap (λ o. extents_and d.stride (Some v) o) (later xs q) ∙ k

place_kept : (f g : Sym → Option ℤ) → ((s : Sym) (v : ℤ) → f s ≡ Some v → g s ≡ Some v) → (lmad : Lmad) (place : ℤ × List Extent) → place_of f lmad ≡ Some place → place_of g lmad ≡ Some place
place_kept f g keep lmad place h = go (f lmad.base) (extents_by f lmad.dims) refl refl h
  where
    go : (v : Option ℤ) (rest : Option (List Extent)) → f lmad.base ≡ v → extents_by f lmad.dims ≡ rest → place_by v rest ≡ Some place → place_by (g lmad.base) (extents_by g lmad.dims) ≡ Some place
    go None rest p q k = absurd (cc)
    go (Some v) None p q k = absurd (cc)
    go (Some v) (Some xs) p q k = ap (λ o. place_by o (extents_by g lmad.dims)) (keep lmad.base v p) ∙ ap (λ o. place_by (Some v) o) (extents_kept f g keep lmad.dims xs q) ∙ k

-- ---- one choice for all nodes

place_same : (p q : Option (ℤ × List Extent)) (a : ℤ) (o : Type 0) → ((place : ℤ × List Extent) → p ≡ Some place → q ≡ Some place) → o ↔ OfPlace q a (Contains [] a) → OfPlace p a o ↔ OfPlace q a (Contains [] a)
place_same None q a o keep same = same
place_same (Some place) q a o keep same = subst (λ t. IsReached place.0 place.1 a ↔ OfPlace t a (Contains [] a)) (sym (keep place refl)) (λ h. h, λ h. h)

cond_same : (v w : Option ℤ) (x y : ℤ) → ((n : ℤ) → v ≡ Some n → x ≡ n) → ((n : ℤ) → w ≡ Some n → y ≡ n) → (rel : Rel) (P Q O : Type 0) → P ↔ Q → O ↔ (Holds x rel y × Q) → Where v rel w P O ↔ (Holds x rel y × Q)
cond_same None w x y f g rel P Q O pq o = o
cond_same (Some n) None x y f g rel P Q O pq o = o
cond_same (Some n) (Some m) x y f g rel P Q O pq o = (
  λ h. (subst (λ y. Holds x rel y) (sym (g m refl)) (subst (λ x. Holds x rel m) (sym (f n refl)) h.0), pq.0 h.1),
  λ h. (subst (λ y. Holds n rel y) (g m refl) (subst (λ x. Holds x rel y) (f n refl) h.0), pq.1 h.1),
)

count_same : (v : Option ℤ) (x : ℤ) → ((n : ℤ) → v ≡ Some n → x ≡ n) → (P Q : ℤ → Type 0) (O : Type 0) → ((i : ℤ) → P i ↔ Q i) → O ↔ Over x Q → OverCount v P O ↔ Over x Q
count_same None x f P Q O pq o = o
count_same (Some n) x f P Q O pq o = (
  λ h. record { index = h.index; from_one = h.from_one; in_count = subst (λ c. h.index ≤ℤ c) (sym (f n refl)) h.in_count; holds = (pq h.index).0 h.holds },
  λ h. record { index = h.index; from_one = h.from_one; in_count = subst (λ c. h.index ≤ℤ c) (f n refl) h.in_count; holds = (pq h.index).1 h.holds },
)

module _ (worth : Worth) (value : Value) (extends : Extends worth value) (choice : Choice) where
  keep : (indices : List ℤ) (s : Sym) (v : ℤ) → worth s indices ≡ Some v → worth_by value s indices ≡ Some v
  keep indices s v h = ap (λ x. Some x) (extends.kept s indices v h)

  node_same : (sets more : Sets) → ((id : ℕ) (indices : List ℤ) (a : ℤ) → sets id indices a ↔ more id indices a) → (id : ℕ) (node : Node) (indices : List ℤ) (a : ℤ) →
      Contains (choice id indices) a ↔ Chosen value more id node indices a → IsOf worth choice sets id node indices a ↔ Chosen value more id node indices a
  node_same sets more same id n.Empty indices a o = (λ h. h, λ h. h)
  node_same sets more same id (n.Leaf lmad) indices a o = place_same (place_of (λ s. worth s indices) lmad) (place_of (λ s. worth_by value s indices) lmad) a (Contains (choice id indices) a) (place_kept (λ s. worth s indices) (λ s. worth_by value s indices) (keep indices) lmad) o
  node_same sets more same id (n.Union x y) indices a o = (
    λ h. elim h as (λ _. more x indices a ⊎ more y indices a) [ inl k ↦ inl ((same x indices a).0 k) | inr k ↦ inr ((same y indices a).0 k) ],
    λ h. elim h as (λ _. sets x indices a ⊎ sets y indices a) [ inl k ↦ inl ((same x indices a).1 k) | inr k ↦ inr ((same y indices a).1 k) ],
  )
  node_same sets more same id (n.Inter x y) indices a o = (λ h. ((same x indices a).0 h.0, (same y indices a).0 h.1), λ h. ((same x indices a).1 h.0, (same y indices a).1 h.1))
  node_same sets more same id (n.Minus x y) indices a o = (λ h. ((same x indices a).0 h.0, λ k. h.1 ((same y indices a).1 k)), λ h. ((same x indices a).1 h.0, λ k. h.1 ((same y indices a).0 k)))
  node_same sets more same id (n.Gate cond body) indices a o = cond_same (worth cond.left indices) (worth cond.right indices) (value cond.left indices) (value cond.right indices) (extends.kept cond.left indices) (extends.kept cond.right indices) cond.rel (sets body indices a) (more body indices a) _ (same body indices a) o
  node_same sets more same id (n.Recur index count body) indices a o = count_same (worth count indices) (value count indices) (extends.kept count indices) _ _ _ (λ i. same body (slice_set indices index i) a) o
  node_same sets more same id (n.Below index limit body) indices a o = (
    λ h. before_map (index_value indices limit) (λ i. sets body (slice_set indices index i) a) (λ i. more body (slice_set indices index i) a) (λ i k. (same body (slice_set indices index i) a).0 k) h,
    λ h. before_map (index_value indices limit) (λ i. more body (slice_set indices index i) a) (λ i. sets body (slice_set indices index i) a) (λ i k. (same body (slice_set indices index i) a).1 k) h,
  )
  node_same sets more same id (n.Site site body) indices a o = same body indices a

  agrees : (nodes : List Node) → ((id : ℕ) (indices : List ℤ) (a : ℤ) → id < length nodes → Contains (choice id indices) a ↔ Sets_by value nodes id indices a) →
      (id : ℕ) (indices : List ℤ) (a : ℤ) → sets_of worth choice nodes id indices a ↔ Sets_by value nodes id indices a
  agrees [] o id indices a = (λ h. h, λ h. h)
  agrees (node ∷ older) o id indices a = (elim (id == length older) as (λ t. (id == length older) ≡ t → one_of worth choice t (λ id. IsOf worth choice (sets_of worth choice older) id node) (sets_of worth choice older) id indices a ↔ one_of (worth_by value) nothing_chosen t (λ id. Chosen value (Sets_by value older) id node) (Sets_by value older) id indices a) [
    | true ↦ λ e. node_same (sets_of worth choice older) (Sets_by value older) (agrees older lower) id node indices a (newest e)
    | false ↦ λ e. agrees older lower id indices a
  ]) refl
    where
      lower : (id : ℕ) (indices : List ℤ) (a : ℤ) → id < length older → Contains (choice id indices) a ↔ Sets_by value older id indices a
      lower id indices a h = subst (λ t. Contains (choice id indices) a ↔ one_of (worth_by value) nothing_chosen t (λ id. Chosen value (Sets_by value older) id node) (Sets_by value older) id indices a) (ne_eqb id (length older) (λ e. omega (arith, h, e))) (o id indices a (omega (arith, h)))

      newest : (id == length older) ≡ true → Contains (choice id indices) a ↔ Chosen value (Sets_by value older) id node indices a
      newest e = subst (λ t. Contains (choice id indices) a ↔ one_of (worth_by value) nothing_chosen t (λ id. Chosen value (Sets_by value older) id node) (Sets_by value older) id indices a) e (o id indices a (let k : id ≡ length older = eqb-true id (length older) e in omega (arith, k)))

pub choices_extend : ChoicesExtend
choices_extend worth value extends nodes = (λ id indices. (listed value (reverse nodes) id indices).numbers, agrees worth value extends _ (reverse nodes) (λ id indices a h. ((listed value (reverse nodes) id indices).has a, (listed value (reverse nodes) id indices).all a)))

pub surely_empty_is_empty : SurelyEmptyIsEmpty
surely_empty_is_empty worth value extends nodes id indices empty a h = let c = choices_extend worth value extends nodes in empty c.0 a ((c.1 id indices a).1 h)
