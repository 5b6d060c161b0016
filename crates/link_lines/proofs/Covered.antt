-- The shapes that linking adds are covered by each accepted description.
use Rattle.std.proofs.Common.{◌≡◌, ℕ, true, false, Option, Some, None, is_some, refl, sym, ap, ◌∙◌}
use Rattle.md_rows.specs.declared.description.RawDescription.{RawDescription}
use Rattle.md_rows.specs.declared.description.Role.TheVariants.{Link}
use Rattle.md_shapes.specs.declared.patterns.Pattern.{Pattern}
use Rattle.md_shapes.specs.declared.patterns.Pattern.TheVariants.{MoveStack, SetStack, Call, Return, SaveLink, RestoreLink, Halt}
use Rattle.md_shapes.specs.Shapes.{Frame, has_transfer, has_link as is_there}
use Rattle.md_shapes.specs.Drawings.{frame_of}
use Rattle.md_covers.specs.Covers.{first_with, frame_with}
use Rattle.md_check.specs.Accepted.{has_link}
use Rattle.temp_laws.specs.Covered.{RequiredAreCovered, is_always}
use Rattle.link_rows.specs.Added.{is_added}
use Rattle.link_lines.specs.Laws.{AddedAreCovered}

abbrev link_in : Option Frame → Option ℕ
link_in (Some f) = f.link
link_in None = None

link_is : (d : RawDescription) (s q : Option ℕ) (f : Frame) → frame_with d s q ≡ Some f → f.link ≡ first_with Link d.registers
link_is d (Some s) (Some q) f e = sym (ap link_in e)
link_is d (Some s) None f e = absurd (none_some e)
  where
    none_some : None ≡ Some f → ⊥
    none_some e = cc
link_is d None q f e = absurd (none_some e)
  where
    none_some : None ≡ Some f → ⊥
    none_some e = cc

has_some : (z : Option ℕ) → is_there z ≡ is_some z
has_some (Some z) = refl
has_some None = refl

false_true : {A : Type 0} → false ≡ true → A
false_true e = absurd (never e)
  where
    never : false ≡ true → ⊥
    never e = cc

always : (d : RawDescription) (f : Frame) (p : Pattern) → is_there f.link ≡ has_link d → is_added p ≡ true → has_transfer f p ≡ true
    → is_always (has_link d) p ≡ true
always d f SetStack e a h = refl
always d f MoveStack e a h = refl
always d f Call e a h = refl
always d f Return e a h = refl
always d f Halt e a h = refl
always d f SaveLink e a h = sym e ∙ h
always d f RestoreLink e a h = sym e ∙ h
always d f _ e a h = false_true a

pub covered : RequiredAreCovered → AddedAreCovered
covered law w d t checked table p added transfer =
    let f = frame_of d.word t.frame in
    let there : is_there f.link ≡ has_link d = has_some f.link ∙ ap is_some (link_is d _ _ f table.frame) in
    (law w d t checked table).always p (always d f p there added transfer)
