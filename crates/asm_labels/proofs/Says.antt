-- What a line says.
use Rattle.std.proofs.Common.{◌≡◌, ℕ, ◌<◌, ◌≤◌, true, false, List, [], length}
use Rattle.asm_token.specs.Tokens.{Token}
use Rattle.asm_row.specs.Walk.{IsLine, LineOf}
use Rattle.asm_program.specs.TextLines.{SayTokens, too_long, skipped, no_tokens, tokens, is_skipped, line_limit}
use Rattle.asm_labels.specs.declared.saying.Said.{Said as Held}
use Rattle.asm_labels.specs.declared.saying.Said.TheVariants as held
use Rattle.asm_labels.specs.Seen.{IsSaid, OnOthers, seen}

on_others : (h : Held) (P : Type 0) → P → OnOthers h P
on_others held.Others P p = p
on_others held.Nothing P p = tt
on_others _ P p = tt

module _ (line : List ℕ) where
  pub too_long_said : line_limit < length line → IsSaid line held.Unreadable
  too_long_said h = record { tokens = []; says = too_long h; are = tt }

  pub skipped_said : length line ≤ line_limit → is_skipped line ≡ true → IsSaid line held.Nothing
  skipped_said h e = record { tokens = []; says = skipped h e; are = tt }

  pub no_tokens_said : length line ≤ line_limit → is_skipped line ≡ false → (LineOf line → ⊥) → IsSaid line held.Unreadable
  no_tokens_said h e n = record { tokens = []; says = no_tokens h e n; are = tt }

  pub tokens_said : (x : Held) → length line ≤ line_limit → is_skipped line ≡ false → LineOf line → ((ts : List Token) → IsLine line ts → SayTokens ts (seen x ts)) → IsSaid line x
  tokens_said x h e l s = record { tokens = l.0; says = tokens l.0 (seen x l.0) h e l.1 (s l.0 l.1); are = on_others x (IsLine line l.0) l.1 }
