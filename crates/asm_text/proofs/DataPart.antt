-- The data part of a text that keeps the rules.
use Rattle.std.proofs.Common.{◌≡◌, ◌≢◌, ℕ, true, List, [], ◌∷◌, length, refl, sym, ap, subst, ◌∙◌}
use Rattle.md_rows.specs.declared.description.RawDescription.{RawDescription}
use Rattle.asm_program.specs.declared.places.Part.{Part}
use Rattle.asm_program.specs.declared.places.Part.TheVariants.{Outside, InText, InData}
use Rattle.asm_program.specs.TextLines.{Said, Nothing, Unreadable, TextBegins, DataBegins, Labelled, Mislabelled, Word, Byte, Space, Others}
use Rattle.asm_program.specs.Places.{Position, start, after, part_after, reach_in}
use Rattle.asm_program.specs.Rules.{AreSaid, IsSound, Walks, word_bytes, is_in_place}
use Rattle.asm_program.specs.Programs.{data_part}
use Rattle.asm_data.specs.Data.{AreData}

-- where the data begin
record Begins (d : RawDescription) (all lines : List Said) : Type 0 where
  position : Position
  last : Position
  walks : Walks d all position lines last
  part : position.part ≡ InData
  reach : position.reach ≡ 0

no_reach : (part : Part) (wb k : ℕ) (s : Said) → part ≢ InData → reach_in part wb k s ≡ k
no_reach Outside wb k s n = refl
no_reach InText wb k s n = refl
no_reach InData wb k s n = absurd (n refl)

pub begins_in_text : (w : ℕ) (part : Part) → part ≢ InData → is_in_place w part DataBegins ≡ true → part ≡ InText
begins_in_text w Outside n e = absurd (cc)
begins_in_text w InText n e = refl
begins_in_text w InData n e = absurd (n refl)

pub still_text : (s : Said) (part : Part) → s ≢ DataBegins → part ≢ InData → part_after part s ≢ InData
still_text s InData n p e = p refl
still_text TextBegins Outside n p e = cc
still_text Nothing Outside n p e = cc
still_text _ Outside n p e = cc
still_text DataBegins InText n p e = n refl
still_text Nothing InText n p e = cc
still_text _ InText n p e = cc

abbrev nowhere : Position
nowhere = record { line = 0; part = InData; count = 0; reach = 0; names = [] }

module _ (d : RawDescription) (all : List Said) where
  begins_from : (ss : List Said) (p q : Position) → p.part ≢ InData → p.reach ≡ 0 → Walks d all p ss q → Begins d all (data_part ss)
  begins_from [] p q o e w = record { position = nowhere; last = nowhere; walks = refl; part = refl; reach = refl }
  begins_from (DataBegins ∷ ss) p q o e w =
      let t : p.part ≡ InText = begins_in_text d.word p.part o w.0.in_place in
      record {
        position = after (word_bytes d) p DataBegins;
        last = q;
        walks = w.1;
        part = ap (λ (r : Part). part_after r DataBegins) t;
        reach = no_reach p.part (word_bytes d) p.reach DataBegins o ∙ e;
      }
  begins_from (Nothing ∷ ss) p q o e w = begins_from ss (after (word_bytes d) p Nothing) q (still_text Nothing p.part (λ f. cc) o) (no_reach p.part (word_bytes d) p.reach Nothing o ∙ e) w.1
  begins_from (Unreadable ∷ ss) p q o e w = begins_from ss (after (word_bytes d) p Unreadable) q (still_text Unreadable p.part (λ f. cc) o) (no_reach p.part (word_bytes d) p.reach Unreadable o ∙ e) w.1
  begins_from (TextBegins ∷ ss) p q o e w = begins_from ss (after (word_bytes d) p TextBegins) q (still_text TextBegins p.part (λ f. cc) o) (no_reach p.part (word_bytes d) p.reach TextBegins o ∙ e) w.1
  begins_from (Labelled l ∷ ss) p q o e w = begins_from ss (after (word_bytes d) p (Labelled l)) q (still_text (Labelled l) p.part (λ f. cc) o) (no_reach p.part (word_bytes d) p.reach (Labelled l) o ∙ e) w.1
  begins_from (Mislabelled ∷ ss) p q o e w = begins_from ss (after (word_bytes d) p Mislabelled) q (still_text Mislabelled p.part (λ f. cc) o) (no_reach p.part (word_bytes d) p.reach Mislabelled o ∙ e) w.1
  begins_from (Word z ∷ ss) p q o e w = begins_from ss (after (word_bytes d) p (Word z)) q (still_text (Word z) p.part (λ f. cc) o) (no_reach p.part (word_bytes d) p.reach (Word z) o ∙ e) w.1
  begins_from (Byte z ∷ ss) p q o e w = begins_from ss (after (word_bytes d) p (Byte z)) q (still_text (Byte z) p.part (λ f. cc) o) (no_reach p.part (word_bytes d) p.reach (Byte z) o ∙ e) w.1
  begins_from (Space z ∷ ss) p q o e w = begins_from ss (after (word_bytes d) p (Space z)) q (still_text (Space z) p.part (λ f. cc) o) (no_reach p.part (word_bytes d) p.reach (Space z) o ∙ e) w.1
  begins_from (Others ts ∷ ss) p q o e w = begins_from ss (after (word_bytes d) p (Others ts)) q (still_text (Others ts) p.part (λ f. cc) o) (no_reach p.part (word_bytes d) p.reach (Others ts) o ∙ e) w.1

  pub are_data : (text : List ℕ) → IsSound d all → AreSaid text (data_part all) → AreData d text (data_part all) []
  are_data text s a =
      let b = begins_from all start s.last (λ e. cc) refl s.walks in
      record { all = all; position = b.position; last = b.last; said = a; walks = b.walks; part = b.part; reach = b.reach }
