-- A source by its parts.
use Rattle.std.proofs.Common.{◌≡◌, ℕ, Bool, not, Option, List, map, ap, ◌∙◌}
use Rattle.c_tree.specs.declared.syntax.External.{External}
use Rattle.c_tree.specs.declared.syntax.Syntax.{Syntax}
use Rattle.c_tree.specs.declared.typed.Static.{Static}
use Rattle.c_tree.specs.declared.typed.Function.{Function}
use Rattle.c_tree.specs.declared.typed.Typed.{Typed}
use Rattle.c_typing.specs.declared.names.Fault.{Fault}
use Rattle.c_typing.specs.declared.names.Signature.{Signature}
use Rattle.c_typing.specs.Faults.{notes}
use Rattle.c_typing.specs.Expressions.{one, broken_if}
use Rattle.c_typing.specs.Functions.{headings, definition_of, signature, signatures}
use Rattle.c_typing.specs.Program as spec

-- the numbers of first definitions and the signatures are those of the definition
module _ (w : ℕ) (s : Syntax) (first : List ℕ → Option ℕ) (ss : List Signature) (parts : List External)
    (defines : (name : List ℕ) → first name ≡ definition_of (headings s.parts) name) (types : ss ≡ map (signature first) (headings s.parts)) (same : parts ≡ s.parts) where
  abbrev walked : spec.Parts
  walked = spec.all_parts first ss w spec.nothing parts

  abbrev whole : spec.Parts
  whole = spec.all_parts (definition_of (headings s.parts)) (signatures s.parts) w spec.nothing s.parts

  same_parts : walked ≡ whole
  same_parts =
      let f : first ≡ definition_of (headings s.parts) = λ i name. defines name i in
      let g : ss ≡ signatures s.parts = types ∙ ap (λ (h : List ℕ → Option ℕ). map (signature h) (headings s.parts)) f in
      λ i. spec.all_parts (f i) (g i) w spec.nothing (same i)

  pub tree_of_whole : (fs : Option (List Function)) (statics : List Static) (t : Option Typed) → fs ≡ walked.functions → statics ≡ walked.file.statics → t ≡ one (spec.typed statics) fs
      → t ≡ (spec.program w s).tree
  tree_of_whole fs statics t e objects made =
      made ∙ ap (λ (os : List Static). one (spec.typed os) fs) objects ∙ ap (λ (hs : Option (List Function)). one (spec.typed walked.file.statics) hs) e
      ∙ ap (λ (p : spec.Parts). one (spec.typed p.file.statics) p.functions) same_parts

  pub told_of_whole : (old mid new : Option Fault) (b : Bool) → mid ≡ notes old walked.faults → new ≡ notes mid (broken_if (not b) 31 s.end) → b ≡ spec.has_main (headings s.parts)
      → new ≡ notes old (spec.program w s).faults
  told_of_whole old mid new b before then_ is =
      then_ ∙ ap (λ (c : Bool). notes mid (broken_if (not c) 31 s.end)) is
      ∙ ap (λ (m : Option Fault). notes m (broken_if (not (spec.has_main (headings s.parts))) 31 s.end)) before
      ∙ ap (λ (p : spec.Parts). notes (notes old p.faults) (broken_if (not (spec.has_main (headings s.parts))) 31 s.end)) same_parts
