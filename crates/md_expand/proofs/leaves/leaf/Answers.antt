use Rattle.std.proofs.Common.{◌≡◌, ◌⊎◌, inl, inr, ℕ}
use Rattle.rtl_tree.specs.Trees.{AnyName}
use Rattle.md_rows.specs.declared.row.Hole.{Hole}
use Rattle.md_rows.specs.declared.row.Hole.TheVariants.{Sym, Label}
use Rattle.md_text.specs.Expansion.{leaf_of}
use Rattle.md_expand.specs.Like.{IsLike, registers, numbers, names}
use Rattle.md_expand.proofs.leaves.leaf.Goals as goal

pub returns-in-Reg-clause-like : goal.returns-in-Reg-clause-like
returns-in-Reg-clause-like c = rw c.in-Reg.is (registers c.args.number c.narrowed.result)

pub returns-in-Num-clause-like : goal.returns-in-Num-clause-like
returns-in-Num-clause-like c = rw c.in-Num.is (numbers c.args.number c.narrowed-in-Num.result)

a_name : (hole : Hole) (m n : ℕ) → (hole ≡ Sym) ⊎ (hole ≡ Label) → IsLike (leaf_of hole m) (AnyName n)
a_name hole m n (inl e) = rw e (names m n)
a_name hole m n (inr e) = rw e (names m n)

pub returns-in-Sym-clause-like : goal.returns-in-Sym-clause-like
returns-in-Sym-clause-like c = a_name c.args.hole c.args.number c.narrowed-in-Sym.result c.in-Sym.is
