-- The intrinsic functions of INTEGER and CHARACTER (ANSI X3.9-1978, section 15.10, table 5).
use Rattle.std.specs.Prelude.{ℕ, Bool, ◌==◌, nat_le, List, [], ◌∷◌, Option, find, codes, nat_eq}
use Rattle.std.specs.Cmp.Lexicographic.{pointwise}
use Rattle.f77_ast.specs.declared.expr.Kind.{Kind}
use Rattle.f77_ast.specs.declared.expr.Kind.TheVariants as kind
use Rattle.f77_leaves.specs.declared.intrinsics.Intrinsic.{Intrinsic}
use Rattle.f77_leaves.specs.declared.intrinsics.Intrinsic.TheVariants as the

-- all of them
abbrev pub intrinsics : List Intrinsic
intrinsics =
    the.Abs ∷ the.Iabs ∷ the.Mod ∷ the.Sign ∷ the.Isign ∷ the.Dim ∷ the.Idim ∷ the.Max ∷ the.Max0 ∷ the.Min ∷ the.Min0
    ∷ the.Ichar ∷ the.Char ∷ the.Len ∷ the.Index ∷ the.Lge ∷ the.Lgt ∷ the.Lle ∷ the.Llt ∷ []

-- how one is spelled
abbrev pub spelling : Intrinsic → List ℕ
spelling the.Abs = codes "ABS"
spelling the.Iabs = codes "IABS"
spelling the.Mod = codes "MOD"
spelling the.Sign = codes "SIGN"
spelling the.Isign = codes "ISIGN"
spelling the.Dim = codes "DIM"
spelling the.Idim = codes "IDIM"
spelling the.Max = codes "MAX"
spelling the.Max0 = codes "MAX0"
spelling the.Min = codes "MIN"
spelling the.Min0 = codes "MIN0"
spelling the.Ichar = codes "ICHAR"
spelling the.Char = codes "CHAR"
spelling the.Len = codes "LEN"
spelling the.Index = codes "INDEX"
spelling the.Lge = codes "LGE"
spelling the.Lgt = codes "LGT"
spelling the.Lle = codes "LLE"
spelling the.Llt = codes "LLT"

-- whether one is spelled so
abbrev pub is_spelled : (name : List ℕ) → Intrinsic → Bool
is_spelled name intrinsic = pointwise nat_eq (spelling intrinsic) name

-- the one that is spelled so
abbrev pub intrinsic_named : (name : List ℕ) → Option Intrinsic
intrinsic_named name = find (is_spelled name) intrinsics

-- the kind of all its arguments
abbrev pub takes : Intrinsic → Kind
takes the.Abs = kind.Integer
takes the.Iabs = kind.Integer
takes the.Mod = kind.Integer
takes the.Sign = kind.Integer
takes the.Isign = kind.Integer
takes the.Dim = kind.Integer
takes the.Idim = kind.Integer
takes the.Max = kind.Integer
takes the.Max0 = kind.Integer
takes the.Min = kind.Integer
takes the.Min0 = kind.Integer
takes the.Ichar = kind.Character
takes the.Char = kind.Integer
takes the.Len = kind.Character
takes the.Index = kind.Character
takes the.Lge = kind.Character
takes the.Lgt = kind.Character
takes the.Lle = kind.Character
takes the.Llt = kind.Character

-- the kind of what it gives
abbrev pub gives : Intrinsic → Kind
gives the.Abs = kind.Integer
gives the.Iabs = kind.Integer
gives the.Mod = kind.Integer
gives the.Sign = kind.Integer
gives the.Isign = kind.Integer
gives the.Dim = kind.Integer
gives the.Idim = kind.Integer
gives the.Max = kind.Integer
gives the.Max0 = kind.Integer
gives the.Min = kind.Integer
gives the.Min0 = kind.Integer
gives the.Ichar = kind.Integer
gives the.Char = kind.Character
gives the.Len = kind.Integer
gives the.Index = kind.Integer
gives the.Lge = kind.Logical
gives the.Lgt = kind.Logical
gives the.Lle = kind.Logical
gives the.Llt = kind.Logical

-- whether it takes so many arguments: MAX and MIN take two or more
abbrev pub takes_count : Intrinsic → (count : ℕ) → Bool
takes_count the.Abs count = count == 1
takes_count the.Iabs count = count == 1
takes_count the.Mod count = count == 2
takes_count the.Sign count = count == 2
takes_count the.Isign count = count == 2
takes_count the.Dim count = count == 2
takes_count the.Idim count = count == 2
takes_count the.Max count = nat_le 2 count
takes_count the.Max0 count = nat_le 2 count
takes_count the.Min count = nat_le 2 count
takes_count the.Min0 count = nat_le 2 count
takes_count the.Ichar count = count == 1
takes_count the.Char count = count == 1
takes_count the.Len count = count == 1
takes_count the.Index count = count == 2
takes_count the.Lge count = count == 2
takes_count the.Lgt count = count == 2
takes_count the.Lle count = count == 2
takes_count the.Llt count = count == 2
