-- A source that breaks no rule has a typed tree.
use Rattle.std.proofs.Common.{◌≡◌, ℕ, Bool, true, false, ◌&&◌, Option, Some, None, List, [], ◌∷◌, map, length, refl}
use Rattle.c_tree.specs.declared.syntax.Declaration.TheVariants as declaration
use Rattle.c_tree.specs.declared.syntax.External.{External}
use Rattle.c_tree.specs.declared.syntax.External.TheVariants as external
use Rattle.c_tree.specs.declared.syntax.Syntax.{Syntax}
use Rattle.c_typing.specs.declared.names.Signature.{Signature}
use Rattle.c_typing.specs.Faults.{clean}
use Rattle.c_typing.specs.Expressions.{one, is_sound}
use Rattle.c_typing.specs.Functions.{definition_of, heading, headings, return_type, signatures}
use Rattle.c_typing.specs.Laws.{HasTree}
use Rattle.c_typing.specs.Statements as st
use Rattle.c_typing.specs.Program as p
use Rattle.c_typing.proofs.Trees.{left_of, right_of, one_sound}
use Rattle.c_typing.proofs.Walks.{single_sound, joined_sound, list_good}

module _ (first : List ℕ → Option ℕ) (ss : List Signature) (w : ℕ) where
  part_sound : (f : p.File) (x : External) → clean (p.part first ss w f x).faults ≡ true → is_sound (p.part first ss w f x).functions ≡ true
  part_sound f (external.Include at) k = refl
  part_sound f (external.Declared (declaration.Objects at t is)) k = refl
  part_sound f (external.Declared (declaration.Function at r n ps)) k = refl
  part_sound f (external.Defined at r n ps brace body) k =
      let f2 = p.with_heading f (heading n.bytes r ps true) in
      let q = p.parameters_of f2 ps in
      let here : st.Here = record { names = q.names; locals = []; labels = [] } in
      let g = p.within ss w f2 in
      let c = p.around_body (return_type r) (length f2.names) in
      let x = st.sequence g c here (map (st.walk g) body) in
      single_sound (one (p.function_tree brace n (return_type r) q.objects x.here.locals) x.tree)
      (one_sound (p.function_tree brace n (return_type r) q.objects x.here.locals) x.tree ((list_good g c here body).has (right_of _ _ (right_of _ _ k))))

  parts_sound : (f : p.File) (xs : List External) → clean (p.all_parts first ss w f xs).faults ≡ true → is_sound (p.all_parts first ss w f xs).functions ≡ true
  parts_sound f [] k = refl
  parts_sound f (x ∷ xs) k = joined_sound _ _ (part_sound f x (left_of _ _ k)) (parts_sound (p.part first ss w f x).file xs (right_of _ _ k))

pub program_has_tree : HasTree
program_has_tree w s k =
    let hs = definition_of (headings s.parts) in
    let ss = signatures s.parts in
    one_sound (p.typed (p.all_parts hs ss w p.nothing s.parts).file.statics) (p.all_parts hs ss w p.nothing s.parts).functions (parts_sound hs ss w p.nothing s.parts (left_of _ _ k))
