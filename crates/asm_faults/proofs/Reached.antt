-- The lines before a place keep the rules, and what their numbers are.
use Rattle.std.proofs.Common.{◌≡◌, ℕ, ◌+◌, List, [], ◌∷◌, ◌++◌, length, None, refl, sym, ap, subst, ◌∙◌, arith, append_assoc, length-append}
use Rattle.std.proofs.lemmas.List.{append-nil}
use Rattle.std.specs.List.{AllZip}
use Rattle.md_rows.specs.declared.description.RawDescription.{RawDescription}
use Rattle.asm_program.specs.declared.rules.Rule.{Rule}
use Rattle.asm_program.specs.declared.rules.Rule.TheVariants.{PassesLimit}
use Rattle.asm_program.specs.TextLines.{Said, Says, lines_of}
use Rattle.asm_program.specs.Places.{Position, start, after}
use Rattle.asm_program.specs.Law.{SaysOneThing}
use Rattle.asm_program.specs.Rules.{AreSaid, IsWithin, IsBrokenAt, Walks, word_bytes}
use Rattle.asm_program.proofs.Walking.{walks_more}
use Rattle.asm_labels.specs.declared.saying.Said.{Said as Held}
use Rattle.asm_labels.specs.Seen.{IsSaid, OnOthers, seen}
use Rattle.asm_labels.proofs.Opening.{opens}
use Rattle.asm_token.specs.Tokens.{Token}
use Rattle.asm_row.specs.Walk.{IsLine}
use Rattle.asm_faults.specs.Counts.{Shows}
use Rattle.asm_faults.specs.declared.positions.Standing.{Standing}
use Rattle.asm_faults.specs.Checks.{KeepsRules, IsLeast, IsWalked}
use Rattle.asm_faults.proofs.LineRules.{good, passes}

-- so far the lines keep the rules; rest is left
pub record IsReached (d : RawDescription) (all : List Said) (rest : List ℕ) (h : Standing) : Type 0 where
  pub before : List Said
  pub behind : List Said
  pub are : all ≡ before ++ behind
  pub said : AreSaid rest behind
  pub position : Position
  pub walks : Walks d all start before position
  pub shows : Shows h position
  pub many : length before ≡ h.place.line

pub at_start : (d : RawDescription) (all : List Said) (text : List ℕ) (h : Standing) → AreSaid text all → Shows h start → h.place.line ≡ 0 → IsReached d all text h
at_start d all text h a s e = record { before = []; behind = all; are = refl; said = a; position = start; walks = refl; shows = s; many = sym e }

-- the line that is met
pub record Meets (d : RawDescription) (all : List Said) (line rest : List ℕ) (h : Standing) (x : Held) : Type 0 where
  pub before : List Said
  pub behind : List Said
  pub tokens : List Token
  pub are : all ≡ before ++ seen x tokens ∷ behind
  pub on : OnOthers x (IsLine line tokens)
  pub others : AreSaid rest behind
  pub position : Position
  pub walks : Walks d all start before position
  pub shows : Shows h position
  pub many : length before ≡ h.place.line

module _ (d : RawDescription) (all : List Said) where
  pub meets : SaysOneThing → (text line rest : List ℕ) (h : Standing) (x : Held) → lines_of text ≡ line ∷ lines_of rest → IsSaid line x → IsReached d all text h → Meets d all line rest h x
  meets once text line rest h x e s r =
      let o = opens once line rest x s text r.behind e r.said in
      record {
        before = r.before;
        behind = o.behind;
        tokens = o.tokens;
        are = r.are ∙ ap (λ (ss : List Said). r.before ++ ss) o.are;
        on = o.on;
        others = o.others;
        position = r.position;
        walks = r.walks;
        shows = r.shows;
        many = r.many;
      }

  module _ (line rest : List ℕ) (h : Standing) (x : Held) where
    pub broken_here : (m : Meets d all line rest h x) (n : ℕ) (rule : Rule) → IsLeast d all m.position (seen x m.tokens) rule → n ≡ h.place.line + 1 → IsBrokenAt d all n rule
    broken_here m n rule b e =
        record {
          before = m.before;
          said = seen x m.tokens;
          behind = m.behind;
          are = m.are;
          position = m.position;
          walks = m.walks;
          breaks = b.breaks;
          least = b.least;
          is_line = omega (arith, m.many);
        }

    pub passes_here : (m : Meets d all line rest h x) (n : ℕ) → KeepsRules d all m.position (seen x m.tokens) → (IsWithin d (after (word_bytes d) m.position (seen x m.tokens)) → ⊥)
        → n ≡ h.place.line + 1 → IsBrokenAt d all n PassesLimit
    passes_here m n k w e = broken_here m n PassesLimit (passes d all m.position (seen x m.tokens) k w) e

    pub goes_on : (m : Meets d all line rest h x) (g : Standing) → KeepsRules d all m.position (seen x m.tokens) → IsWithin d (after (word_bytes d) m.position (seen x m.tokens))
        → Shows g (after (word_bytes d) m.position (seen x m.tokens)) → g.place.line ≡ h.place.line + 1 → IsReached d all rest g
    goes_on m g k w s e =
        record {
          before = m.before ++ seen x m.tokens ∷ [];
          behind = m.behind;
          are = m.are ∙ sym (append_assoc m.before (seen x m.tokens ∷ []) m.behind);
          said = m.others;
          position = after (word_bytes d) m.position (seen x m.tokens);
          walks = walks_more d all start m.before m.position (seen x m.tokens) m.walks (good d all m.position (seen x m.tokens) k w);
          shows = s;
          many = omega (arith, m.many, length-append m.before (seen x m.tokens ∷ []));
        }

nothing_behind : (before all behind : List Said) → all ≡ before ++ behind → AllZip Says [] behind → all ≡ before
nothing_behind before all [] e a = e ∙ append-nil before
nothing_behind before all (s ∷ ss) e a = absurd a

-- at the end all lines keep the rules
pub at_end : (d : RawDescription) (all : List Said) (rest : List ℕ) (h : Standing) → rest ≡ [] → IsReached d all rest h → IsWalked d all None
at_end d all rest h e r =
    let same : all ≡ r.before = nothing_behind r.before all r.behind r.are (subst (λ (xs : List ℕ). AreSaid xs r.behind) e r.said) in
    (r.position, subst (λ (xs : List Said). Walks d all start xs r.position) (sym same) r.walks)
