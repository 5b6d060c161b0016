-- The composition of the passes.
use Rattle.std.proofs.Common.{◌≡◌, ◌∙◌, ℕ, List, [], ◌∷◌, ◌++◌, map, Some, refl, sym, ap, subst}
use Rattle.std.specs.Prelude.{All, Contains, slice_index_or}
use Rattle.std.specs.List.{AllZip}
use Rattle.std.proofs.lemmas.List.Elements.{All-nil, All-cons, All-head, All-tail, All-contains_itself}
use Rattle.md_rows.specs.declared.description.RawDescription.{RawDescription}
use Rattle.md_shapes.specs.Shapes.{Frame}
use Rattle.md_covers.specs.Covers.{frame_in}
use Rattle.md_check.specs.Checking.{IsChecked}
use Rattle.c_tree.specs.declared.typed.Typed.{Typed}
use Rattle.c_limits.specs.Limits.{limit_faults}
use Rattle.temp_code.specs.declared.code.Code.{Code}
use Rattle.temp_code.specs.declared.code.Unit.{Unit as Program}
use Rattle.temp_code.specs.Realised.{AreRealised}
use Rattle.temp_code.specs.Routines.{routine_of}
use Rattle.temp_laws.specs.Targets.{target_of}
use Rattle.color_code.specs.Colors.{IsColoring}
use Rattle.color_registers.specs.Registers.{colors_of}
use Rattle.color_units.specs.Units.{IsColoredBySome, IsColoredUnit}
use Rattle.frame_link.specs.Linked.{IsLinkableUnit}
use Rattle.reg_color.specs.Codes.{MayBeColored}
use Rattle.naive_expand.specs.Units.{IsNaiveCode}
use Rattle.pass_driver.specs.Codes.{ColorsAreMet}
use Rattle.pass_driver.specs.Units.{UnitsAreLinkable}
use Rattle.pass_driver.specs.declared.compiled.Dump.{Dump}
use Rattle.pass_driver.specs.declared.compiled.Part.{Part}
use Rattle.pass_driver.specs.Passes.{IsReady, AreColored}

same_frame : (f g : Frame) → Some f ≡ Some g → f ≡ g
same_frame f g e = cc

pub the_frame : (d : RawDescription) (f g : Frame) → frame_in d ≡ Some f → frame_in d ≡ Some g → f ≡ g
the_frame d f g e h = same_frame f g (sym e ∙ h)

all_from : (P : Code → Type 0) (cs : List Code) → ((c : Code) → Contains cs c → P c) → All P cs
all_from P cs h k d lt = h (slice_index_or cs k d) (All-contains_itself cs k d lt)

pub are_ready : ColorsAreMet → (w : ℕ) (d : RawDescription) (t : Typed) (u : Program) → IsChecked w d → IsNaiveCode d t u → All (IsReady d) u.codes
are_ready law w d t u c n = all_from (IsReady d) u.codes (λ x there.
    (let k = law w d t u c n x there in
    record {
      homes = k.0;
      colors = λ frame e seats coloring.
          (let f = the_frame d n.frame frame n.fixed e in
          subst (λ (g : Frame). MayBeColored d (target_of d g []) seats x) f
          (k.1 seats (subst (λ (g : Frame). IsColoring (target_of d g []) (routine_of x) (colors_of d) seats) (sym f) coloring)));
    }))

pub unit_colored : (d : RawDescription) (t : Typed) (u : Program) (n : IsNaiveCode d t u) (cs : List Code) → AreColored d u.codes cs
    → IsColoredUnit d n.frame u (record { codes = cs; symbols = u.symbols; bytes = u.bytes; names = u.names })
unit_colored d t u n cs h = record { codes = h n.frame n.fixed; symbols = refl; bytes = refl; names = refl }

-- each dump is made of instructions
pub colored_realised : (d : RawDescription) (frame : Frame) (old new : List Code) → AllZip (IsColoredBySome d (target_of d frame [])) old new → All (AreRealised d) new
colored_realised d frame [] [] h = All-nil (AreRealised d)
colored_realised d frame (c ∷ cs) (x ∷ xs) h = All-cons (AreRealised d) x xs h.0.code.realised (colored_realised d frame cs xs h.1)
colored_realised d frame [] (x ∷ xs) h = absurd h
colored_realised d frame (c ∷ cs) [] h = absurd h

parts_realised : (d : RawDescription) (parts : List Part) (cs : List Code) → map (λ part. part.code) parts ≡ cs → All (AreRealised d) cs → All (λ part. AreRealised d part.code) parts
parts_realised d parts cs e h = by parts (subst (All (AreRealised d)) (sym e) h)
  where
    by : (ps : List Part) → All (AreRealised d) (map (λ part. part.code) ps) → All (λ part. AreRealised d part.code) ps
    by [] h = All-nil (λ part. AreRealised d part.code)
    by (p ∷ ps) h =
        All-cons (λ part. AreRealised d part.code) p ps (All-head (AreRealised d) p.code (map (λ part. part.code) ps) h)
        (by ps (All-tail (AreRealised d) p.code (map (λ part. part.code) ps) h))

abbrev IsRealisedDump : RawDescription → Dump → Type 0
IsRealisedDump d dump = All (λ (part : Part). AreRealised d part.code) dump.parts

pub two_dumps : (d : RawDescription) (none one two : List Dump) (a b : Dump) (cs xs : List Code) → none ≡ [] → one ≡ none ++ a ∷ [] → two ≡ one ++ b ∷ []
    → map (λ part. part.code) a.parts ≡ cs → map (λ part. part.code) b.parts ≡ xs → All (AreRealised d) cs → All (AreRealised d) xs → All (IsRealisedDump d) two
two_dumps d none one two a b cs xs n p q e f h k =
    subst (All (IsRealisedDump d)) (sym (q ∙ (ap (λ ds. ds ++ b ∷ []) p ∙ ap (λ ds. (ds ++ a ∷ []) ++ b ∷ []) n)))
    (All-cons (IsRealisedDump d) a (b ∷ []) (parts_realised d a.parts cs e h) (All-cons (IsRealisedDump d) b [] (parts_realised d b.parts xs f k) (All-nil (IsRealisedDump d))))

pub can_link : UnitsAreLinkable → (w room : ℕ) (d : RawDescription) (t : Typed) (u : Program) (n : IsNaiveCode d t u) (cs : List Code) → IsChecked w d
    → limit_faults [] d.word room t ≡ [] → AreColored d u.codes cs → (frame : Frame) → frame_in d ≡ Some frame
    → IsLinkableUnit d frame (record { codes = cs; symbols = u.symbols; bytes = u.bytes; names = u.names })
can_link law w room d t u n cs c within h frame e =
    let v : Program = record { codes = cs; symbols = u.symbols; bytes = u.bytes; names = u.names } in
    subst (λ (f : Frame). IsLinkableUnit d f v) (the_frame d n.frame frame n.fixed e) (law w room d t u v c n within (unit_colored d t u n cs h)).linkable
