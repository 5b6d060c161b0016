-- A label that is new, put into the tables.
use Rattle.std.proofs.Common.{◌≡◌, ℕ, ◌==◌, Bool, true, false, cond, List, Option, Some, None, refl, sym, ap, ◌∙◌}
use Rattle.std.specs.Bool.{nat_eq}
use Rattle.std.specs.Str.{bytes_eq}
use Rattle.std.proofs.lemmas.Bool.{eqb-true}
use Rattle.std.proofs.lemmas.Slice.Eq.{bytes_eq-Decides}
use Rattle.asm_program.specs.declared.places.Place.{Place}
use Rattle.asm_program.specs.TextLines.{Label, Block, Symbol}
use Rattle.asm_program.specs.Places.{same_label}
use Rattle.asm_labels.specs.declared.labels.Labels.{Labels}
use Rattle.asm_labels.specs.Tables.{place_in, kept}

kept_update : (o n : Option Place) (b : Bool) (q : Place) → (b ≡ true → o ≡ None) → n ≡ cond b (Some q) o → n ≡ kept o b q
kept_update None n true q h e = e
kept_update None n false q h e = e
kept_update (Some p) n true q h e = absurd (full p (h refl))
  where
    full : (p : Place) → Some p ≡ None → ⊥
    full p e = cc
kept_update (Some p) n false q h e = e

kept_same : (o : Option Place) (q : Place) → o ≡ kept o false q
kept_same None q = refl
kept_same (Some p) q = refl

module _ (t n : Labels) (place : Place) where
  pub block_kept : (block : ℕ) → place_in t (Block block) ≡ None → ((s : List ℕ) → place_in n (Symbol s) ≡ place_in t (Symbol s))
      → ((b : ℕ) → place_in n (Block b) ≡ cond (nat_eq block b) (Some place) (place_in t (Block b)))
      → (l : Label) → place_in n l ≡ kept (place_in t l) (same_label (Block block) l) place
  block_kept block e others update (Block b) =
      kept_update (place_in t (Block b)) (place_in n (Block b)) (block == b) place (λ h. sym (ap (λ (x : ℕ). place_in t (Block x)) (eqb-true block b h)) ∙ e) (update b)
  block_kept block e others update (Symbol s) = others s ∙ kept_same (place_in t (Symbol s)) place

  pub symbol_kept : (symbol : List ℕ) → place_in t (Symbol symbol) ≡ None → ((b : ℕ) → place_in n (Block b) ≡ place_in t (Block b))
      → ((s : List ℕ) → place_in n (Symbol s) ≡ cond (bytes_eq symbol s) (Some place) (place_in t (Symbol s)))
      → (l : Label) → place_in n l ≡ kept (place_in t l) (same_label (Symbol symbol) l) place
  symbol_kept symbol e others update (Symbol s) =
      kept_update (place_in t (Symbol s)) (place_in n (Symbol s)) (bytes_eq symbol s) place
      (λ h. sym (ap (λ (x : List ℕ). place_in t (Symbol x)) ((bytes_eq-Decides symbol s).0 h)) ∙ e) (update s)
  symbol_kept symbol e others update (Block b) = others b ∙ kept_same (place_in t (Block b)) place
