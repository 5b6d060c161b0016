-- When the shape of a number is covered.
use Rattle.std.proofs.Common.{◌⊎◌, List, [], ◌∷◌}
use Rattle.rtl_word.specs.declared.Rel.{Rel}
use Rattle.rtl_word.specs.declared.Rel.TheVariants.{Eq, Ne, Lt, Le, Gt, Ge, Ltu, Leu, Gtu, Geu}
use Rattle.md_rows.specs.declared.description.RawDescription.{RawDescription}
use Rattle.md_shapes.specs.Shapes.{relations}
use Rattle.md_check.specs.Accepted.{IsCovered, IsFlagBranch, shape}
use Rattle.md_check.specs.Checking.{EachBranch}

abbrev pub BranchesOn : RawDescription → Rel → Type 0
BranchesOn d r = IsCovered d (shape 20 0 r 0) ⊎ IsFlagBranch d r

pub each_branch : (d : RawDescription) → EachBranch d relations → (r : Rel) → BranchesOn d r
each_branch d h Eq = h.0
each_branch d h Ne = h.1.0
each_branch d h Lt = h.1.1.0
each_branch d h Le = h.1.1.1.0
each_branch d h Gt = h.1.1.1.1.0
each_branch d h Ge = h.1.1.1.1.1.0
each_branch d h Ltu = h.1.1.1.1.1.1.0
each_branch d h Leu = h.1.1.1.1.1.1.1.0
each_branch d h Gtu = h.1.1.1.1.1.1.1.1.0
each_branch d h Geu = h.1.1.1.1.1.1.1.1.1.0

branches_in : (d : RawDescription) (rs : List Rel) → ((r : Rel) → BranchesOn d r) → EachBranch d rs
branches_in d [] f = tt
branches_in d (r ∷ rs) f = (f r, branches_in d rs f)

pub all_branches : (d : RawDescription) → ((r : Rel) → BranchesOn d r) → EachBranch d relations
all_branches d f = branches_in d relations f
