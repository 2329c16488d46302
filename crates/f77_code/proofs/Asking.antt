-- Code that asks for what an evaluation asks for, and goes on with its value.
use Rattle.std.proofs.Common.{◌≡◌, ℕ, ℤ, List, ◌∷◌, ◌++◌, Option, None, Some, refl, ap}
use Rattle.f77_ast.specs.declared.code.Instr.{Instr}
use Rattle.f77_ast.specs.declared.program.Program.{Program}
use Rattle.f77_meaning.specs.Demand.{Demand, gives, wants, calls, fails, and_then, Evaluation, Located, Location, located, setting_of}
use Rattle.f77_meaning.specs.Operands.{Operand, Stack, value, entity, place, with_place}
use Rattle.f77_meaning.specs.Perform.{asked, performed}
use Rattle.f77_meaning.specs.Print.{Printing}
use Rattle.f77_meaning.specs.Process.{Frame}
use Rattle.f77_meaning.specs.Step.{Move}

module _ (program : Program) (texts : List (List ℕ)) (below : List Frame) (p : Printing) where
  -- one evaluation after another
  pub asked_then : {A B : Type 0} (d : Demand A) (f : A → List ℤ → Demand B) (go : B → List ℤ → Option Move) → asked program texts below (and_then d f) p go ≡ asked program texts below d p (λ x rest. asked program texts below (f x rest) p go)
  asked_then (gives x rest) f go = refl
  asked_then (wants address by) f go = refl
  asked_then (calls unit bindings) f go = refl
  asked_then (fails fault) f go = refl

  -- what goes on with each value in the same way
  pub asked_same : {A : Type 0} (d : Demand A) (f g : A → List ℤ → Option Move) → ((x : A) (rest : List ℤ) → f x rest ≡ g x rest) → asked program texts below d p f ≡ asked program texts below d p g
  asked_same d f g h = ap (asked program texts below d p) (λ i x rest. h x rest i)

  -- the same, of the value that is given
  pub asked_where : {A : Type 0} (d : Demand A) (f g : A → List ℤ → Option Move) → ((x : A) (rest : List ℤ) → d ≡ gives x rest → f x rest ≡ g x rest) → asked program texts below d p f ≡ asked program texts below d p g
  asked_where (gives x rest) f g h = h x rest refl
  asked_where (wants address by) f g h = refl
  asked_where (calls unit bindings) f g h = refl
  asked_where (fails fault) f g h = refl

  -- code that leaves the value of an evaluation on top of any stack
  pub record LeavesValue (code : List Instr) (d : Evaluation) : Type 0 where
    pub leaves : (is : List Instr) (stack : Stack) (answers : List ℤ) → performed program texts below (code ++ is) stack answers p ≡ asked program texts below (d answers) p (λ x rest. performed program texts below is (value x ∷ stack) rest p)

  -- an operand is at a place
  abbrev pub IsAtPlace : Operand → Located → Type 0
  IsAtPlace (value x) at = ⊥
  IsAtPlace (entity e) at = (answers : List ℤ) → located (setting_of program p.frame) (Some e) None answers ≡ gives at answers
  IsAtPlace (place there) at = there ≡ at

  pub with_place_there : (o : Operand) (at : Located) (stack : Stack) (go : Location → Stack → Option Move) → IsAtPlace o at → with_place (setting_of program p.frame) (o ∷ stack) go ≡ go (λ answers. gives at answers) stack
  with_place_there (value x) at stack go h = absurd h
  with_place_there (entity e) at stack go h = λ i. go (λ answers. h answers i) stack
  with_place_there (place there) at stack go h = λ i. go (λ answers. gives (h i) answers) stack

  -- code that leaves an operand that is where a location is
  pub record LeavesPlace (code : List Instr) (location : Location) : Type 0 where
    pub operand : Located → Operand
    pub leaves : (is : List Instr) (stack : Stack) (answers : List ℤ) → performed program texts below (code ++ is) stack answers p ≡ asked program texts below (location answers) p (λ at rest. performed program texts below is (operand at ∷ stack) rest p)
    pub there : (answers rest : List ℤ) (at : Located) → location answers ≡ gives at rest → IsAtPlace (operand at) at
