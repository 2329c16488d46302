-- What is told of a node, by what is told of its children.
use Rattle.std.proofs.Common.{ℕ, zero, suc, ◌≡◌, inl, inr, ◌+◌, ◌<◌, ℤ, pos, negsuc, ◌≤ℤ◌, ◌<ℤ◌, Bool, List, [], Option, Some, None, Result, Ok, Err, IfOk, Contains, slice_get, slice_set, unwrap_or, refl, sym, ap, subst, ◌∙◌, arith}
use Rattle.std.proofs.lemmas.Int.{ints, by_lt_z}
use Rattle.std.proofs.lemmas.List.{set-set, set-get_or}
use Rattle.std.proofs.lemmas.Option.{unwrap_or-slice_get}
use Rattle.hyb_base.specs.declared.env.Env.{Env}
use Rattle.hyb_base.specs.declared.ops.Rel.{Rel}
use Rattle.sym_lmad.specs.declared.lmad.Lmad.{Lmad}
use Rattle.sym_lmad.specs.declared.sym.Sym.{Sym}
use Rattle.sym_lmad.specs.Bindings.{IsReadable}
use Rattle.sym_lmad.specs.Gain.{at_index}
use Rattle.sym_lmad.specs.Members.{AddsMembers, members_of, count_of, extents_by}
use Rattle.sym_lmad.specs.Worth.{worth_of}
use Rattle.sym_lmad.proofs.MemberLaws.{members_are_listed}
use Rattle.uses.specs.Over.{Over, Before}
use Rattle.usr_graph.specs.declared.node.Cond.{Cond}
use Rattle.usr_graph.specs.declared.node.Node.{Node}
use Rattle.usr_graph.specs.declared.node.Node.TheVariants as n
use Rattle.plain_members.specs.declared.told.Told.{Told}
use Rattle.plain_members.specs.declared.told.Told.TheVariants.{In, Out, Open}
use Rattle.plain_members.specs.Asked.{IsOpen, itself, in_child, Answers, AnswersBy, AnswersOver, opposite_of, Compares, Looked, turns_before}
use Rattle.usr_graph.specs.Built.{IsNodeOf}
use Rattle.usr_graph.specs.Choice.{near_worth}
use Rattle.usr_graph.specs.Members.{Worth, Choice, IsMember, Holds, OfPlace, Where, OverCount, place_by, place_of, index_value}

module _ (worth : Worth) (nodes : List Node) (indices : List ℤ) (a : ℤ) where
  -- ---- a node at its place

  pub told_is : (id : ℕ) (node : Node) (t : Told) → slice_get nodes id ≡ Some node → IsNodeOf nodes id node → AnswersBy worth nodes id node indices a t → Answers worth nodes id indices a t
  told_is id node In at is h = λ choice. (is.members worth choice indices a).1 (h choice)
  told_is id node Out at is h = λ choice k. h choice ((is.members worth choice indices a).0 k)
  told_is id node Open at is h = elim h as (λ _. IsOpen worth nodes id indices) [ inl l ↦ itself id indices node at l | inr c ↦ in_child id indices node c.child c.later at c.asked c.opened ]

  -- ---- two children

  pub either_in : (id x y : ℕ) → Answers worth nodes x indices a In → AnswersBy worth nodes id (n.Union x y) indices a In
  either_in id x y h = λ choice. inl (h choice)

  pub either_open : (id x y : ℕ) → Answers worth nodes x indices a Open → AnswersBy worth nodes id (n.Union x y) indices a Open
  either_open id x y h = inr (record { child = x; later = indices; asked = (inl refl, refl); opened = h })

  pub either_later : (id x y : ℕ) → Answers worth nodes x indices a Out → (t : Told) → Answers worth nodes y indices a t → AnswersBy worth nodes id (n.Union x y) indices a t
  either_later id x y h In k = λ choice. inr (k choice)
  either_later id x y h Out k = λ choice m. elim m as (λ _. ⊥) [ inl p ↦ h choice p | inr q ↦ k choice q ]
  either_later id x y h Open k = inr (record { child = y; later = indices; asked = (inr refl, refl); opened = k })

  pub both_out : (id x y : ℕ) → Answers worth nodes x indices a Out → AnswersBy worth nodes id (n.Inter x y) indices a Out
  both_out id x y h = λ choice m. h choice m.0

  pub both_open : (id x y : ℕ) → Answers worth nodes x indices a Open → AnswersBy worth nodes id (n.Inter x y) indices a Open
  both_open id x y h = inr (record { child = x; later = indices; asked = (inl refl, refl); opened = h })

  pub both_later : (id x y : ℕ) → Answers worth nodes x indices a In → (t : Told) → Answers worth nodes y indices a t → AnswersBy worth nodes id (n.Inter x y) indices a t
  both_later id x y h In k = λ choice. (h choice, k choice)
  both_later id x y h Out k = λ choice m. k choice m.1
  both_later id x y h Open k = inr (record { child = y; later = indices; asked = (inr refl, refl); opened = k })

  pub first_out : (id x y : ℕ) → Answers worth nodes x indices a Out → AnswersBy worth nodes id (n.Minus x y) indices a Out
  first_out id x y h = λ choice m. h choice m.0

  pub first_open : (id x y : ℕ) → Answers worth nodes x indices a Open → AnswersBy worth nodes id (n.Minus x y) indices a Open
  first_open id x y h = inr (record { child = x; later = indices; asked = (inl refl, refl); opened = h })

  pub first_later : (id x y : ℕ) → Answers worth nodes x indices a In → (t : Told) → Answers worth nodes y indices a (opposite_of t) → AnswersBy worth nodes id (n.Minus x y) indices a t
  first_later id x y h In k = λ choice. (h choice, k choice)
  first_later id x y h Out k = λ choice m. m.1 (k choice)
  first_later id x y h Open k = inr (record { child = y; later = indices; asked = (inr refl, refl); opened = k })

  -- ---- a condition

  pub gate_open : (id : ℕ) (cond : Cond) (body : ℕ) → Looked (worth cond.left indices) cond.rel (worth cond.right indices) Open → AnswersBy worth nodes id (n.Gate cond body) indices a Open
  gate_open id cond body h = inl h

  where_is : (left right : Option ℤ) (rel : Rel) (p o : Type 0) → Compares left right (λ x y. Holds x rel y) → p → Where left rel right p o
  where_is left right rel p o c h = subst (λ l. Where l rel right p o) (sym c.left_is) (subst (λ r. Where (Some c.x) rel r p o) (sym c.right_is) (c.holds, h))

  where_was : (left right : Option ℤ) (rel : Rel) (f : ℤ → ℤ → Type 0) (p o : Type 0) → Compares left right f → Where left rel right p o → p
  where_was left right rel f p o c h =
      let k : Where (Some c.x) rel right p o = subst (λ l. Where l rel right p o) c.left_is h in
      let m : Where (Some c.x) rel (Some c.y) p o = subst (λ r. Where (Some c.x) rel r p o) c.right_is k in m.1

  where_not : (left right : Option ℤ) (rel : Rel) (p o : Type 0) → Compares left right (λ x y. Holds x rel y → ⊥) → Where left rel right p o → ⊥
  where_not left right rel p o c h =
      let k : Where (Some c.x) rel right p o = subst (λ l. Where l rel right p o) c.left_is h in
      let m : Where (Some c.x) rel (Some c.y) p o = subst (λ r. Where (Some c.x) rel r p o) c.right_is k in c.holds m.0

  pub gate_out : (id : ℕ) (cond : Cond) (body : ℕ) → Looked (worth cond.left indices) cond.rel (worth cond.right indices) Out → AnswersBy worth nodes id (n.Gate cond body) indices a Out
  gate_out id cond body h = λ choice m. where_not (worth cond.left indices) (worth cond.right indices) cond.rel (IsMember worth choice nodes body indices a) (Contains (choice id indices) a) h m

  pub gate_later : (id : ℕ) (cond : Cond) (body : ℕ) → Looked (worth cond.left indices) cond.rel (worth cond.right indices) In → (t : Told) → Answers worth nodes body indices a t → AnswersBy worth nodes id (n.Gate cond body) indices a t
  gate_later id cond body h In k = λ choice. where_is (worth cond.left indices) (worth cond.right indices) cond.rel (IsMember worth choice nodes body indices a) (Contains (choice id indices) a) h (k choice)
  gate_later id cond body h Out k = λ choice m. k choice (where_was (worth cond.left indices) (worth cond.right indices) cond.rel (λ x y. Holds x cond.rel y) (IsMember worth choice nodes body indices a) (Contains (choice id indices) a) h m)
  gate_later id cond body h Open k = inr (record { child = body; later = indices; asked = where_is (worth cond.left indices) (worth cond.right indices) cond.rel ((body ≡ body) × (indices ≡ indices)) ⊥ h (refl, refl); opened = k })

  pub site_later : (id site body : ℕ) (t : Told) → Answers worth nodes body indices a t → AnswersBy worth nodes id (n.Site site body) indices a t
  site_later id site body In k = k
  site_later id site body Out k = k
  site_later id site body Open k = inr (record { child = body; later = indices; asked = (refl, refl); opened = k })

  -- ---- a body at the values of an index

  over_turns : (count : ℤ) (at : ℤ → Type 0) → Over (pos (count_of count)) at → Over count at
  over_turns (pos c) at h = h
  over_turns (negsuc c) at h = let x = h.from_one in let y = h.in_count in absurd (omega (arith, ints, x, y))

  within_turns : (count i : ℤ) → pos 1 ≤ℤ i → i ≤ℤ count → i ≤ℤ pos (count_of count)
  within_turns (pos c) i from upto = upto
  within_turns (negsuc c) i from upto = omega (arith, ints, from, upto)

  pub over_later : (id index : ℕ) (count : Sym) (body : ℕ) (number : ℤ) (turns : ℕ) → worth count indices ≡ Some number → turns ≡ count_of number → (t : Told) → AnswersOver worth nodes index body indices turns a t → AnswersBy worth nodes id (n.Recur index count body) indices a t
  over_later id index count body number turns e q In h = λ choice. subst (λ c. OverCount c (λ i. IsMember worth choice nodes body (slice_set indices index i) a) (Contains (choice id indices) a)) (sym e)
      (let k = over_turns number _ (subst (λ m. Over (pos m) (λ i. (choice : Choice) → IsMember worth choice nodes body (slice_set indices index i) a)) q h) in record { index = k.index; from_one = k.from_one; in_count = k.in_count; holds = k.holds choice })
  over_later id index count body number turns e q Out h = λ choice m.
      let k : Over number (λ i. IsMember worth choice nodes body (slice_set indices index i) a) = subst (λ c. OverCount c (λ i. IsMember worth choice nodes body (slice_set indices index i) a) (Contains (choice id indices) a)) e m in
      h k.index k.from_one (subst (λ m. k.index ≤ℤ pos m) (sym q) (within_turns number k.index k.from_one k.in_count)) choice k.holds
  over_later id index count body number turns e q Open h =
      let k = over_turns number _ (subst (λ m. Over (pos m) (λ i. IsOpen worth nodes body (slice_set indices index i))) q h) in
      inr (record {
        child = body;
        later = slice_set indices index k.index;
        asked = subst (λ c. OverCount c (λ i. (body ≡ body) × (slice_set indices index k.index ≡ slice_set indices index i)) ⊥) (sym e) (record { index = k.index; from_one = k.from_one; in_count = k.in_count; holds = (refl, refl) });
        opened = k.holds;
      })

  pub over_open : (id index : ℕ) (count : Sym) (body : ℕ) → worth count indices ≡ None → AnswersBy worth nodes id (n.Recur index count body) indices a Open
  over_open id index count body e = inl e

  before_turns : (limit : ℤ) (at : ℤ → Type 0) → Over (pos (turns_before limit)) at → Before limit at
  before_turns (pos zero) at h = let x = h.from_one in let y = h.in_count in absurd (omega (arith, ints, x, y))
  before_turns (pos (suc l)) at h = record { index = h.index; from_one = h.from_one; in_order = (let y = h.in_count in omega (arith, ints, y)); holds = h.holds }
  before_turns (negsuc l) at h = let x = h.from_one in let y = h.in_count in absurd (omega (arith, ints, x, y))

  within_before : (limit i : ℤ) → pos 1 ≤ℤ i → i <ℤ limit → i ≤ℤ pos (turns_before limit)
  within_before (pos zero) i from upto = omega (arith, ints, from, upto)
  within_before (pos (suc l)) i from upto = omega (arith, ints, upto)
  within_before (negsuc l) i from upto = omega (arith, ints, from, upto)

  pub below_later : (id index limit body turns : ℕ) → turns ≡ turns_before (index_value indices limit) → (t : Told) → AnswersOver worth nodes index body indices turns a t → AnswersBy worth nodes id (n.Below index limit body) indices a t
  below_later id index limit body turns q In h = λ choice.
      (let k = before_turns (index_value indices limit) _ (subst (λ m. Over (pos m) (λ i. (choice : Choice) → IsMember worth choice nodes body (slice_set indices index i) a)) q h) in record { index = k.index; from_one = k.from_one; in_order = k.in_order; holds = k.holds choice })
  below_later id index limit body turns q Out h = λ choice k.
      h k.index k.from_one (subst (λ m. k.index ≤ℤ pos m) (sym q) (within_before (index_value indices limit) k.index k.from_one k.in_order)) choice k.holds
  below_later id index limit body turns q Open h =
      let k = before_turns (index_value indices limit) _ (subst (λ m. Over (pos m) (λ i. IsOpen worth nodes body (slice_set indices index i))) q h) in
      inr (record { child = body; later = slice_set indices index k.index; asked = record { index = k.index; from_one = k.from_one; in_order = k.in_order; holds = (refl, refl) }; opened = k.holds })

  -- one turn more
  pub none_yet : (index body : ℕ) → AnswersOver worth nodes index body indices 0 a Out
  none_yet index body = λ i from upto. absurd (omega (arith, ints, from, upto))

  pub none_more : (index body turn : ℕ) → AnswersOver worth nodes index body indices turn a Out → Answers worth nodes body (slice_set indices index (pos (turn + 1))) a Out → AnswersOver worth nodes index body indices (turn + 1) a Out
  none_more index body turn h k i from upto = by_lt_z i (pos (turn + 1))
      (λ l. h i from (omega (arith, ints, l)))
      (λ g. let e : pos (turn + 1) ≡ i = omega (arith, ints, g, upto) in subst (λ j. (choice : Choice) → IsMember worth choice nodes body (slice_set indices index j) a → ⊥) e k)

  pub found_at : (index body turn turns : ℕ) → turn < turns → (t : Told) → (t ≡ Out → ⊥) → Answers worth nodes body (slice_set indices index (pos (turn + 1))) a t → AnswersOver worth nodes index body indices turns a t
  found_at index body turn turns l In never h = record { index = pos (turn + 1); from_one = omega (arith, ints); in_count = omega (arith, ints, l); holds = h }
  found_at index body turn turns l Out never h = absurd (never refl)
  found_at index body turn turns l Open never h = record { index = pos (turn + 1); from_one = omega (arith, ints); in_count = omega (arith, ints, l); holds = h }

-- ---- a descriptor

pub members_same : (env : Env) (values : List ℤ) (lmad : Lmad) (new : List ℤ) (a : ℤ) (o : Type 0) → AddsMembers env values lmad [] new → (Contains new a → OfPlace (place_of (λ s. near_worth env values s env.indices) lmad) a o) × (OfPlace (place_of (λ s. near_worth env values s env.indices) lmad) a o → Contains new a)
members_same env values lmad new a o h =
    let place : place_of (λ s. worth_of env values s) lmad ≡ Some (h.from, h.extents) = ap (λ b. place_by b (extents_by (worth_of env values) lmad.dims)) h.placed.base ∙ ap (λ es. place_by (Some h.from) es) h.placed.counts in
    let same : new ≡ members_of h.extents h.from = h.added in (
      λ k. subst (λ p. OfPlace p a o) (sym place) ((members_are_listed h.from h.extents a).0 (subst (λ l. Contains l a) same k)),
      λ k. subst (λ l. Contains l a) (sym same) ((members_are_listed h.from h.extents a).1 (subst (λ p. OfPlace p a o) place k)),
    )

-- ---- over bindings and values that are the same

pub on_ok : {T E : Type 0} (r : Result T E) (P Q : T → Type 0) → ((x : T) → P x → Q x) → IfOk r P → IfOk r Q
on_ok (Ok x) P Q f h = f x h
on_ok (Err e) P Q f h = tt

pub opposite-twice : (t : Told) → opposite_of (opposite_of t) ≡ t
opposite-twice In = refl
opposite-twice Out = refl
opposite-twice Open = refl

pub answers_moved : {E : Type 0} (r : Result Told E) (nodes : List Node) (id : ℕ) (a : ℤ) (f : Told → Told) (env now : Env) (values held : List ℤ) → now ≡ env → held ≡ values → IfOk r (λ t. Answers (near_worth now held) nodes id now.indices a (f t)) → IfOk r (λ t. Answers (near_worth env values) nodes id env.indices a (f t))
answers_moved r nodes id a f env now values held e v h = subst (λ x. IfOk r (λ t. Answers (near_worth env x) nodes id env.indices a (f t))) v (subst (λ (x : Env). IfOk r (λ t. Answers (near_worth x held) nodes id x.indices a (f t))) e h)

pub at_moved : (nodes : List Node) (index id : ℕ) (z a : ℤ) (t : Told) (env now : Env) (values held : List ℤ) → now ≡ env → held ≡ values → Answers (near_worth now held) nodes id (slice_set now.indices index z) a t → Answers (near_worth env values) nodes id (slice_set env.indices index z) a t
at_moved nodes index id z a t env now values held e v h = subst (λ x. Answers (near_worth env x) nodes id (slice_set env.indices index z) a t) v (subst (λ (x : Env). Answers (near_worth x held) nodes id (slice_set x.indices index z) a t) e h)

-- ---- an index that is set, and set back

pub readable_at : (env : Env) (index : ℕ) (z : ℤ) (values : List ℤ) (may_get : ℕ → Bool) → IsReadable env values may_get → IsReadable (at_index env index z) values may_get
readable_at env index z values may_get h = record { fits = record { bound = h.fits.bound; within = h.fits.within }; allowed = h.allowed }

pub set_back : (env : Env) (index : ℕ) (z held : ℤ) → held ≡ unwrap_or (slice_get env.indices index) (pos 0) → at_index (at_index env index z) index held ≡ env
set_back env index z held h = ap (λ l. record env { indices = l }) (set-set env.indices index z held ∙ ap (λ v. slice_set env.indices index v) (h ∙ unwrap_or-slice_get env.indices index (pos 0)) ∙ set-get_or env.indices index (pos 0))
