-- The least rule that a line breaks.
use Rattle.std.proofs.Common.{◌≡◌, ◌≢◌, ℕ, ◌<◌, Bool, true, false, not, cond, List, Option, Some, None, refl, sym, subst, ◌∙◌, arith}
use Rattle.asm_token.specs.Tokens.{Token}
use Rattle.md_rows.specs.declared.description.RawDescription.{RawDescription}
use Rattle.asm_row.specs.Found.{IsFound}
use Rattle.asm_program.specs.declared.places.Part.{Part}
use Rattle.asm_program.specs.declared.places.Part.TheVariants.{Outside, InText, InData}
use Rattle.asm_program.specs.declared.rules.Rule.{Rule}
use Rattle.asm_program.specs.declared.rules.Rule.TheVariants.{BadTokens, NoRow, StandsAlready, NotInPart, Misplaced, PassesLimit}
use Rattle.asm_program.specs.TextLines.{Label, Said, Nothing, Unreadable, TextBegins, DataBegins, Labelled, Mislabelled, Word, Byte, Space, Others}
use Rattle.asm_program.specs.Places.{Position, after}
use Rattle.asm_program.specs.Rules.{Breaks, IsMade, IsGood, IsWithin, StandsAt, number_of, instruction_in, is_in_place, is_dotted, word_bytes}
use Rattle.asm_labels.specs.declared.saying.Said.{Said as Held}
use Rattle.asm_labels.specs.declared.saying.Said.TheVariants as held
use Rattle.asm_labels.specs.Seen.{seen}
use Rattle.asm_faults.specs.Checks.{IsRowChecked, KeepsRules, IsLeast, IsChecked, IsFirstHere}

not_both : (b : Bool) → b ≡ true → b ≡ false → ⊥
not_both b e f = cc

below_one : (other : Rule) → number_of other < 1 → ⊥
below_one BadTokens h = omega arith
below_one _ h = omega arith

by_dotted : (b : Bool) (us ts : List Token) → cond b None (Some us) ≡ Some ts → not b ≡ true
by_dotted true us ts e = absurd (cc)
by_dotted false us ts e = refl

not_dotted : (b : Bool) (ts : List Token) → not b ≡ true → cond b None (Some ts) ≡ Some ts
not_dotted true ts e = absurd (cc)
not_dotted false ts e = refl

same_tokens : (ts us : List Token) → Some ts ≡ Some us → ts ≡ us
same_tokens ts us e = cc

-- an instruction is in its place
in_place_of : (w : ℕ) (part : Part) (s : Said) (ts : List Token) → instruction_in part s ≡ Some ts → is_in_place w part s ≡ true
in_place_of w Outside s ts e = absurd (cc)
in_place_of w InData s ts e = absurd (cc)
in_place_of w InText Nothing ts e = absurd (cc)
in_place_of w InText (Others us) ts e = by_dotted (is_dotted us) us ts e
in_place_of w InText _ ts e = absurd (cc)

instruction_of : (w : ℕ) (part : Part) (ts : List Token) → is_in_place w part (Others ts) ≡ true → instruction_in part (Others ts) ≡ Some ts
instruction_of w Outside ts e = absurd (cc)
instruction_of w InText ts e = not_dotted (is_dotted ts) ts e
instruction_of w InData ts e = absurd (cc)

-- a label is no instruction
no_instruction : (part : Part) (l : Label) (ts : List Token) → instruction_in part (Labelled l) ≡ Some ts → ⊥
no_instruction Outside l ts e = cc
no_instruction InText l ts e = cc
no_instruction InData l ts e = cc

pub others_only : (part : Part) (h : Held) (ts us : List Token) → instruction_in part (seen h ts) ≡ Some us → h ≡ held.Others
others_only Outside h ts us e = absurd (cc)
others_only InData h ts us e = absurd (cc)
others_only InText held.Nothing ts us e = absurd (cc)
others_only InText held.Others ts us e = refl
others_only InText _ ts us e = absurd (cc)

readable_in_place : (w : ℕ) (part : Part) (s : Said) → s ≡ Unreadable → is_in_place w part s ≡ true
readable_in_place w part s e = subst (λ (x : Said). is_in_place w part x ≡ true) (sym e) refl

module _ (d : RawDescription) (all : List Said) (p : Position) where
  pub unreadable : (s : Said) → s ≡ Unreadable → IsLeast d all p s BadTokens
  unreadable s e = record { breaks = e; least = λ other h b. below_one other h }

  labelled : (l : Label) → (IsFirstHere all p.line (Labelled l) → ⊥) → IsLeast d all p (Labelled l) StandsAlready
  labelled l h =
      record {
        breaks = record { label = l; is_label = refl; earlier = λ st. h (λ k e. subst (λ (x : Label). StandsAt all x p.line) (same_label l k e) st) };
        least = less l;
      }
    where
      same_label : (l k : Label) → Labelled l ≡ Labelled k → l ≡ k
      same_label l k e = cc

      less : (l : Label) (other : Rule) → number_of other < 3 → Breaks d all p (Labelled l) other → ⊥
      less l BadTokens g b = cc
      less l NoRow g b = no_instruction p.part l b.tokens b.is_instruction
      less l _ g b = omega arith

  vacuous : (s : Said) → ((l : Label) → s ≡ Labelled l → ⊥) → (IsFirstHere all p.line s → ⊥) → IsLeast d all p s StandsAlready
  vacuous s none h = absurd (h (λ l e. absurd (none l e)))

  pub stood : (s : Said) → (IsFirstHere all p.line s → ⊥) → IsLeast d all p s StandsAlready
  stood (Labelled l) h = labelled l h
  stood Nothing h = vacuous Nothing (λ l e. cc) h
  stood Unreadable h = vacuous Unreadable (λ l e. cc) h
  stood TextBegins h = vacuous TextBegins (λ l e. cc) h
  stood DataBegins h = vacuous DataBegins (λ l e. cc) h
  stood Mislabelled h = vacuous Mislabelled (λ l e. cc) h
  stood (Word z) h = vacuous (Word z) (λ l e. cc) h
  stood (Byte z) h = vacuous (Byte z) (λ l e. cc) h
  stood (Space z) h = vacuous (Space z) (λ l e. cc) h
  stood (Others ts) h = vacuous (Others ts) (λ l e. cc) h

  misplaced_least : (s : Said) → is_in_place d.word p.part s ≡ false → IsFirstHere all p.line s
      → (other : Rule) → number_of other < 5 → Breaks d all p s other → ⊥
  misplaced_least s e f BadTokens g b = not_both (is_in_place d.word p.part s) (readable_in_place d.word p.part s b) e
  misplaced_least s e f NoRow g b = not_both (is_in_place d.word p.part s) (in_place_of d.word p.part s b.tokens b.is_instruction) e
  misplaced_least s e f StandsAlready g b = b.earlier (f b.label b.is_label)
  misplaced_least s e f NotInPart g b = not_both (is_in_place d.word p.part s) (in_place_of d.word p.part s b.tokens b.is_instruction) e
  misplaced_least s e f _ g b = omega arith

  pub misplaced : (s : Said) → is_in_place d.word p.part s ≡ false → IsFirstHere all p.line s → IsLeast d all p s Misplaced
  misplaced s e f = record { breaks = e; least = misplaced_least s e f }

  pub keeps : (h : Held) (ts : List Token) → seen h ts ≢ Unreadable → IsFirstHere all p.line (seen h ts) → is_in_place d.word p.part (seen h ts) ≡ true → (h ≡ held.Others → ⊥)
      → KeepsRules d all p (seen h ts)
  keeps h ts r f e n = record { readable = r; made = λ us i. absurd (n (others_only p.part h ts us i)); first = f; in_place = e }

  no_row_least : (ts : List Token) (other : Rule) → number_of other < 2 → Breaks d all p (Others ts) other → ⊥
  no_row_least ts BadTokens g b = cc
  no_row_least ts _ g b = omega arith

  elsewhere_least : (ts : List Token) → instruction_in p.part (Others ts) ≡ Some ts → IsRowChecked d all ts (Some NotInPart)
      → (other : Rule) → number_of other < 4 → Breaks d all p (Others ts) other → ⊥
  elsewhere_least ts e h BadTokens g b = cc
  elsewhere_least ts e h NoRow g b =
      let same : b.tokens ≡ ts = same_tokens b.tokens ts (sym b.is_instruction ∙ e) in
      never ts b.tokens (sym same) h b.never
    where
      never : (ts us : List Token) → ts ≡ us → IsRowChecked d all ts (Some NotInPart) → IsRowChecked d all us (Some NoRow) → ⊥
      never ts us q h n = n h.0.0 h.0.1 (subst (λ (xs : List Token). IsFound d xs h.0.0 h.0.1) q h.0.2)
  elsewhere_least ts e h StandsAlready g b = absurd (other_label ts b.label b.is_label)
    where
      other_label : (ts : List Token) (l : Label) → Others ts ≡ Labelled l → ⊥
      other_label ts l e = cc
  elsewhere_least ts e h _ g b = omega arith

  pub row_checked : (ts : List Token) (r : Option Rule) → is_in_place d.word p.part (Others ts) ≡ true → IsRowChecked d all ts r → IsChecked d all p (Others ts) r
  row_checked ts None e h =
      record {
        readable = λ q. cc;
        made = λ us i. subst (λ (xs : List Token). IsMade d all xs) (same_tokens ts us (sym (instruction_of d.word p.part ts e) ∙ i)) h;
        first = λ l q. absurd (cc);
        in_place = e;
      }
  row_checked ts (Some NoRow) e h =
      record { breaks = record { tokens = ts; is_instruction = instruction_of d.word p.part ts e; never = h }; least = no_row_least ts }
  row_checked ts (Some NotInPart) e h =
      let i = instruction_of d.word p.part ts e in
      record {
        breaks = record { tokens = ts; is_instruction = i; place = h.0.0; values = h.0.1; found = h.0.2; elsewhere = h.1 };
        least = elsewhere_least ts i h;
      }
  row_checked ts (Some BadTokens) e h = absurd h
  row_checked ts (Some _) e h = absurd h

  kept_least : (s : Said) → KeepsRules d all p s → (other : Rule) → number_of other < 6 → Breaks d all p s other → ⊥
  kept_least s k BadTokens g b = k.readable b
  kept_least s k NoRow g b = let m = k.made b.tokens b.is_instruction in b.never m.place m.values m.found
  kept_least s k StandsAlready g b = b.earlier (k.first b.label b.is_label)
  kept_least s k NotInPart g b = b.elsewhere (k.made b.tokens b.is_instruction)
  kept_least s k Misplaced g b = not_both (is_in_place d.word p.part s) k.in_place b
  kept_least s k PassesLimit g b = omega arith

  pub passes : (s : Said) → KeepsRules d all p s → (IsWithin d (after (word_bytes d) p s) → ⊥) → IsLeast d all p s PassesLimit
  passes s k h = record { breaks = h; least = kept_least s k }

  pub good : (s : Said) → KeepsRules d all p s → IsWithin d (after (word_bytes d) p s) → IsGood d all p s
  good s k h = record { readable = k.readable; made = k.made; first = k.first; in_place = k.in_place; within = h }
