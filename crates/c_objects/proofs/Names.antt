-- Of what goes along, sizes and initialisers see the names alone.
use Rattle.std.proofs.Common.{◌≡◌, [], refl}
use Rattle.c_tree.specs.declared.types.CType.{CType}
use Rattle.c_tree.specs.declared.syntax.Size.{Size}
use Rattle.c_tree.specs.declared.syntax.Size.TheVariants as size
use Rattle.c_tree.specs.declared.syntax.Initialiser.{Initialiser}
use Rattle.c_tree.specs.declared.syntax.Initialiser.TheVariants as initialiser
use Rattle.c_typing.specs.declared.names.Extent.{Extent}
use Rattle.c_typing.specs.declared.names.Extent.TheVariants as extent
use Rattle.c_typing.specs.Expressions.{Within}
use Rattle.c_typing.specs.Statements as spec

abbrev pub names_of : spec.Here → spec.Here
names_of h = record { names = h.names; locals = []; labels = [] }

module _ (g : Within) (h : spec.Here) where
  pub same_size : (s : Size) → spec.sized g (names_of h) s ≡ spec.sized g h s
  same_size (size.Given e) = refl
  same_size size.Scalar = refl
  same_size size.Absent = refl

  pub same_init : (t : CType) (x : Extent) (i : Initialiser) → spec.initialised g (names_of h) t x i ≡ spec.initialised g h t x i
  same_init t x initialiser.Absent = refl
  same_init t extent.Scalar (initialiser.Value e) = refl
  same_init t (extent.Elements n) (initialiser.Value e) = refl
  same_init t extent.Unknown (initialiser.Value e) = refl
  same_init t extent.Scalar (initialiser.List at es b) = refl
  same_init t (extent.Elements n) (initialiser.List at es b) = refl
  same_init t extent.Unknown (initialiser.List at es b) = refl
