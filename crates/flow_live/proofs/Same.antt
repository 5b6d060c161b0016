-- What is dead before an item goes by what is dead behind it of the cells that rows have.
use Rattle.std.proofs.Common.{◌≡◌, ◌⊎◌, inl, inr, ℕ, ◌<◌, Bool, true, false, not, List, [], ◌∷◌, refl, sym, ap, ◌∙◌}
use Rattle.std.specs.Prelude.{◌&&◌, ◌||◌, nat_lt}
use Rattle.std.proofs.lemmas.Bool.{ltb-true, and_left, cases_Bool}
use Rattle.rtl_tree.specs.declared.cells.Cell.{Cell}
use Rattle.rtl_tree.specs.declared.cells.Cell.TheVariants.{Hard, Temp, Flag, Pc, Input, Output, Halt, Hole}
use Rattle.rtl_tree.specs.Moves.{Goal, ToCell, ToMemory, Move}
use Rattle.temp_machine.specs.Routines.{Exit, Falls, Jumps, Branches, Calls, Returns, Routine, Target}
use Rattle.temp_machine.specs.Cells.{move_reads}
use Rattle.temp_machine.specs.Live.{Item, Transfer, End, is_always_live}
use Rattle.flow_live.specs.Rows.{is_held}
use Rattle.flow_live.specs.Walks.{is_wanted, moves_read, exit_takes, item_takes, item_puts, item_dead, body_dead}
use Rattle.flow_live.proofs.Items.{held_flag}

wanted_same : (f g : ℕ → Bool) → ((n : ℕ) → n < 8 → f n ≡ g n) → (goal : Goal) → is_wanted f goal ≡ is_wanted g goal
wanted_same f g same (ToMemory w a) = refl
wanted_same f g same (ToCell (Hard n)) = refl
wanted_same f g same (ToCell (Temp n)) = refl
wanted_same f g same (ToCell (Flag n)) = by (cases_Bool (nat_lt n 8))
  where
    by : (nat_lt n 8 ≡ true) ⊎ (nat_lt n 8 ≡ false) → not (nat_lt n 8 && f n) ≡ not (nat_lt n 8 && g n)
    by (inl e) = ap (λ (b : Bool). not (nat_lt n 8 && b)) (same n (ltb-true n 8 e))
    by (inr e) = ap not (and_left (nat_lt n 8) (f n) e ∙ sym (and_left (nat_lt n 8) (g n) e))
wanted_same f g same (ToCell Pc) = refl
wanted_same f g same (ToCell Input) = refl
wanted_same f g same (ToCell Output) = refl
wanted_same f g same (ToCell Halt) = refl
wanted_same f g same (ToCell (Hole n)) = refl

pub moves_read_same : (f g : ℕ → Bool) → ((n : ℕ) → n < 8 → f n ≡ g n) → (c : Cell) (ms : List Move) → moves_read f c ms ≡ moves_read g c ms
moves_read_same f g same c [] = refl
moves_read_same f g same c (m ∷ ms) =
    ap (λ (b : Bool). (b && move_reads c m) || moves_read f c ms) (wanted_same f g same m.to)
    ∙ ap (λ (b : Bool). (is_wanted g m.to && move_reads c m) || b) (moves_read_same f g same c ms)

exit_takes_same : (t : Target) (f g : ℕ → Bool) → ((n : ℕ) → n < 8 → f n ≡ g n) → (e : Exit) (c : Cell) → exit_takes t f e c ≡ exit_takes t g e c
exit_takes_same t f g same Falls c = refl
exit_takes_same t f g same (Jumps ms) c = moves_read_same f g same c ms
exit_takes_same t f g same (Branches ms) c = moves_read_same f g same c ms
exit_takes_same t f g same (Calls ms) c = refl
exit_takes_same t f g same Returns c = refl

item_takes_same : (t : Target) (f g : ℕ → Bool) → ((n : ℕ) → n < 8 → f n ≡ g n) → (x : Item) (c : Cell) → item_takes t f x c ≡ item_takes t g x c
item_takes_same t f g same (Transfer ms) c = moves_read_same f g same c ms
item_takes_same t f g same (End e) c = exit_takes_same t f g same e c

module _ (t : Target) (r : Routine) (words : ℕ) where
  -- the same of the cells that rows have
  abbrev pub Alike : (Cell → Bool) → (Cell → Bool) → Type 0
  Alike d e = (c : Cell) → is_held words c ≡ true → d c ≡ e c

  pub item_same : (x : Item) (d e : Cell → Bool) → Alike d e → Alike (item_dead t r x d) (item_dead t r x e)
  item_same x d e same c h =
      ap (λ (b : Bool). (b || item_puts t x c) && (not (item_takes t (λ n. d (Flag n)) x c) && not (is_always_live t r c))) (same c h)
      ∙ ap (λ (b : Bool). (e c || item_puts t x c) && (not b && not (is_always_live t r c)))
      (item_takes_same t (λ n. d (Flag n)) (λ n. e (Flag n)) (λ n l. same (Flag n) (held_flag words n l)) x c)

  pub body_same : (ms : List (List Move)) (exit : Exit) (d e : Cell → Bool) → Alike d e → Alike (body_dead t r ms exit d) (body_dead t r ms exit e)
  body_same [] exit d e same = item_same (End exit) d e same
  body_same (m ∷ ms) exit d e same = item_same (Transfer m) (body_dead t r ms exit d) (body_dead t r ms exit e) (body_same ms exit d e same)
