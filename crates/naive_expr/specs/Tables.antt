-- The tables of where objects are kept.
use Rattle.std.specs.Prelude.{◌≡◌, ℕ, ◌+◌, List, [], ◌∷◌, map}
use Rattle.c_tree.specs.declared.typed.Object.{Object}
use Rattle.c_tree.specs.declared.typed.Static.{Static}
use Rattle.c_limits.specs.Frames.{array_in, scalar_in}
use Rattle.naive_code.specs.Storage.{Storage, static_storage, local_storage}
use Rattle.naive_expr.specs.declared.sites.Site.{Site}
use Rattle.naive_expr.specs.Seen.{storage_of}

-- objects of the file from number x on
abbrev pub statics_from : ℕ → List Static → List Storage
statics_from x [] = []
statics_from x (s ∷ rest) = static_storage x s.object.element s.object.length ∷ statics_from (x + 1) rest

-- locals, of which the scalars are in temporaries and the arrays in the frame
abbrev pub locals_from : (w temp offset : ℕ) → List Object → List Storage
locals_from w temp offset [] = []
locals_from w temp offset (o ∷ rest) =
    local_storage temp offset o.element o.length ∷ locals_from w (temp + scalar_in o.length) (offset + array_in w o.element o.length) rest

-- a site of functions of a source with these objects
pub record IsSiteOf (w : ℕ) (statics : List Static) (s : Site) : Type 0 where
  pub bits : s.bits ≡ w
  pub statics_are : map storage_of s.statics ≡ statics_from 0 statics
