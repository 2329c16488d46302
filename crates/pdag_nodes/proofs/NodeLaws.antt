-- A predicate of a list is what it is by its children.
use Rattle.std.proofs.Common.{◌≡◌, ℕ, zero, suc, ◌+◌, ◌<◌, ◌==◌, ◌⊎◌, inl, inr, ℤ, Bool, true, false, ◌&&◌, ◌||◌, not, List, [], ◌∷◌, ◌++◌, length, reverse, Some, nat_lt, IsTrue, slice_get, refl, ap, sym, subst, ◌∙◌, arith}
use Rattle.std.proofs.lemmas.Bool.{eqb-false}
use Rattle.std.proofs.lemmas.Bool.Decides.{nat_tests}
use Rattle.std.proofs.lemmas.List.{reverse-append, reverse-reverse, length-reverse}
use Rattle.hyb_base.specs.declared.env.Env.{Env}
use Rattle.sym_lmad.specs.Gain.{at_index}
use Rattle.sym_lmad.specs.Naming.{reads_of}
use Rattle.sym_lmad.specs.Worth.{worth_of}
use Rattle.pdag_nodes.specs.declared.pred.Pred.{Pred}
use Rattle.pdag_nodes.specs.declared.pred.Pred.TheVariants as p
use Rattle.pdag_nodes.specs.Nodes.{children_below, HaveEarlierChildren, ChildrenBelow, Meanings, meaning_by, chosen, meanings_of, meaning_of, every_by, sum_by_count, OlderOnesStay}
use Rattle.pdag_nodes.specs.Windows.{where_asked}

some_is : {X : Type 0} (x y : X) → Some x ≡ Some y → x ≡ y
some_is x y h = cc

-- ---- places in a list

get_push : (xs : List Pred) (x : Pred) (id : ℕ) (y : Pred) → slice_get (xs ++ x ∷ []) id ≡ Some y → (slice_get xs id ≡ Some y) ⊎ ((id ≡ length xs) × (x ≡ y))
get_push [] x zero y h = inr (refl, some_is x y h)
get_push [] x (suc id) y h = absurd (cc)
get_push (z ∷ xs) x zero y h = inl h
get_push (z ∷ xs) x (suc id) y h = go (get_push xs x id y h)
  where
    go : (slice_get xs id ≡ Some y) ⊎ ((id ≡ length xs) × (x ≡ y)) → (slice_get xs id ≡ Some y) ⊎ ((suc id ≡ suc (length xs)) × (x ≡ y))
    go (inl k) = inl k
    go (inr k) = inr (ap suc k.0, k.1)

get_first : (xs ys : List Pred) (id : ℕ) (y : Pred) → slice_get xs id ≡ Some y → slice_get (xs ++ ys) id ≡ Some y
get_first [] ys id y h = absurd (cc)
get_first (x ∷ xs) ys zero y h = h
get_first (x ∷ xs) ys (suc id) y h = get_first xs ys id y h

get_within : (xs : List Pred) (id : ℕ) (y : Pred) → slice_get xs id ≡ Some y → id < length xs
get_within [] id y h = absurd (cc)
get_within (x ∷ xs) zero y h = omega arith
get_within (x ∷ xs) (suc id) y h = let k = get_within xs id y h in omega (arith, k)

-- ---- children

pub earlier_push : (nodes : List Pred) (node : Pred) → HaveEarlierChildren nodes → IsTrue (children_below (length nodes) node) → HaveEarlierChildren (nodes ++ node ∷ [])
earlier_push nodes node earlier new id y h = go (get_push nodes node id y h)
  where
    go : (slice_get nodes id ≡ Some y) ⊎ ((id ≡ length nodes) × (node ≡ y)) → IsTrue (children_below id y)
    go (inl k) = earlier id y k
    go (inr k) = subst (λ n. IsTrue (children_below n y)) (sym k.0) (subst (λ x. IsTrue (children_below (length nodes) x)) k.1 new)

both_true : (a b : Bool) → (a && b) ≡ true → (a ≡ true) × (b ≡ true)
both_true true b h = (refl, h)
both_true false b h = absurd (cc)

less : (a b : ℕ) → nat_lt a b ≡ true → a < b
less a b h = grind (arith, nat_tests)

pub children_typed : (n : ℕ) (node : Pred) → IsTrue (children_below n node) → ChildrenBelow n node
children_typed n p.True h = tt
children_typed n p.False h = tt
children_typed n (p.Le x y) h = tt
children_typed n (p.Ne x y) h = tt
children_typed n (p.And a b) h = let t = both_true (nat_lt a n) (nat_lt b n) h in (less a n t.0, less b n t.1)
children_typed n (p.Or a b) h = let t = both_true (nat_lt a n) (nat_lt b n) h in (less a n t.0, less b n t.1)
children_typed n (p.Every index count body) h = less body n h
children_typed n (p.Ascending index count low high rising) h = tt
children_typed n (p.Stable reads writes) h = tt

pub children_are : (nodes : List Pred) (id : ℕ) (node : Pred) → HaveEarlierChildren nodes → slice_get nodes id ≡ Some node → ChildrenBelow id node
children_are nodes id node earlier h = children_typed id node (earlier id node h)

-- ---- meanings

abbrev Agree : ℕ → Meanings → Meanings → Type 0
Agree n f g = (id : ℕ) (env : Env) → id < n → f id env ≡ g id env

same_by : (values : List ℤ) (f g : Meanings) (n : ℕ) (node : Pred) (env : Env) → ChildrenBelow n node → Agree n f g → meaning_by values f node env ≡ meaning_by values g node env
same_by values f g n p.True env h agree = refl
same_by values f g n p.False env h agree = refl
same_by values f g n (p.Le x y) env h agree = refl
same_by values f g n (p.Ne x y) env h agree = refl
same_by values f g n (p.And a b) env h agree =
    let x = agree a env h.0 in
    let y = agree b env h.1 in
    (λ i. record { holds = (x i).holds && (y i).holds; reads = (x i).reads + where_asked (x i).holds (y i).reads })
same_by values f g n (p.Or a b) env h agree =
    let x = agree a env h.0 in
    let y = agree b env h.1 in
    (λ i. record { holds = (x i).holds || (y i).holds; reads = (x i).reads + where_asked (not (x i).holds) (y i).reads })
same_by values f g n (p.Every index count body) env h agree =
    let x = λ (k : ℤ). agree body (at_index env index k) h in
    (λ i. record { holds = every_by (worth_of env values count) (λ k. (x k i).holds); reads = reads_of count + sum_by_count (worth_of env values count) (λ k. (x k i).reads) })
same_by values f g n (p.Ascending index count low high rising) env h agree = refl
same_by values f g n (p.Stable reads writes) env h agree = refl

older_same : (values : List ℤ) (node : Pred) (older : List Pred) → Agree (length older) (meanings_of values (node ∷ older)) (meanings_of values older)
older_same values node older id env h = go (id == length older) refl
  where
    go : (b : Bool) → (id == length older) ≡ b → chosen b (meaning_by values (meanings_of values older) node env) (meanings_of values older id env) ≡ meanings_of values older id env
    go true e = absurd (grind (arith, nat_tests))
    go false e = refl

newest_is : (values : List ℤ) (node : Pred) (older : List Pred) (id : ℕ) (env : Env) → id ≡ length older → meanings_of values (node ∷ older) id env ≡ meaning_by values (meanings_of values older) node env
newest_is values node older id env h = go (id == length older) refl
  where
    go : (b : Bool) → (id == length older) ≡ b → chosen b (meaning_by values (meanings_of values older) node env) (meanings_of values older id env) ≡ meaning_by values (meanings_of values older) node env
    go true e = refl
    go false e = absurd (eqb-false id (length older) e h)

agree_below : (f g : Meanings) (m n : ℕ) → m < suc n → Agree n f g → Agree m f g
agree_below f g m n h agree id env less = agree id env (omega (arith, h, less))

at_place : (values : List ℤ) (rs : List Pred) → HaveEarlierChildren (reverse rs) → (id : ℕ) (node : Pred) → slice_get (reverse rs) id ≡ Some node → (env : Env) → meanings_of values rs id env ≡ meaning_by values (meanings_of values rs) node env
at_place values [] earlier id node h env = absurd (cc)
at_place values (r ∷ rs) earlier id node h env = go (get_push (reverse rs) r id node (subst (λ l. slice_get l id ≡ Some node) split h)) (λ k. at_place values rs before id node k env)
  where
    split : reverse (r ∷ rs) ≡ reverse rs ++ r ∷ []
    split = reverse-append (r ∷ []) rs

    before : HaveEarlierChildren (reverse rs)
    before i x k = earlier i x (subst (λ l. slice_get l i ≡ Some x) (sym split) (get_first (reverse rs) (r ∷ []) i x k))

    same : Agree (length rs) (meanings_of values rs) (meanings_of values (r ∷ rs))
    same i e l = sym (older_same values r rs i e l)

    children : (x : Pred) → node ≡ x → ChildrenBelow id x
    children x e = subst (ChildrenBelow id) e (children_typed id node (earlier id node h))

    go : (slice_get (reverse rs) id ≡ Some node) ⊎ ((id ≡ length (reverse rs)) × (r ≡ node)) → (slice_get (reverse rs) id ≡ Some node → meanings_of values rs id env ≡ meaning_by values (meanings_of values rs) node env) → meanings_of values (r ∷ rs) id env ≡ meaning_by values (meanings_of values (r ∷ rs)) node env
    go (inl k) next =
        let inside : id < length rs = subst (λ n. id < n) (length-reverse rs) (get_within (reverse rs) id node k) in
        older_same values r rs id env inside ∙ next k ∙ same_by values (meanings_of values rs) (meanings_of values (r ∷ rs)) id node env (children node refl) (agree_below (meanings_of values rs) (meanings_of values (r ∷ rs)) id (length rs) (omega (arith, inside)) same)
    go (inr k) next =
        let last : id ≡ length rs = k.0 ∙ length-reverse rs in
        newest_is values r rs id env last ∙ ap (λ x. meaning_by values (meanings_of values rs) x env) k.1
        ∙ same_by values (meanings_of values rs) (meanings_of values (r ∷ rs)) id node env (children node refl) (agree_below (meanings_of values rs) (meanings_of values (r ∷ rs)) id (length rs) (omega (arith, last)) same)

pub meaning_at : (nodes : List Pred) (id : ℕ) (node : Pred) → HaveEarlierChildren nodes → slice_get nodes id ≡ Some node → (values : List ℤ) (env : Env) → meaning_of values nodes id env ≡ meaning_by values (meaning_of values nodes) node env
meaning_at nodes id node earlier h values env = at_place values (reverse nodes) (subst HaveEarlierChildren (sym (reverse-reverse nodes)) earlier) id node (subst (λ l. slice_get l id ≡ Some node) (sym (reverse-reverse nodes)) h) env

pub older_ones_stay : OlderOnesStay
older_ones_stay values nodes node id env h =
    ap (λ rs. meanings_of values rs id env) (reverse-append nodes (node ∷ [])) ∙ older_same values node (reverse nodes) id env (subst (λ n. id < n) (sym (length-reverse nodes)) h)
