-- A machine that was loaded has the program's code, and stands at its start.
use Rattle.std.proofs.Common.{◌≡◌, ℕ, suc, ◌<◌, ◌^◌, false, List, [], ◌∷◌, map, length, replicate, None, Result, Ok, Err, All, refl, sym, ap, ◌∙◌, subst, arith}
use Rattle.std.specs.Prelude.{IfOk}
use Rattle.std.proofs.lemmas.Nat.{pow_pos}
use Rattle.rtl_tree.specs.Moves.{Move}
use Rattle.md_rows.specs.declared.description.RawDescription.{RawDescription}
use Rattle.md_said.specs.Sound.{SaidIsSound}
use Rattle.md_bounds.specs.Bounds.{SaidIsBounded}
use Rattle.md_check.specs.Checking.{IsChecked}
use Rattle.asm_program.specs.Programs.{Assembled, IsAssembled}
use Rattle.machine_effect.specs.Law.{IsMade}
use Rattle.machine_turn.specs.Held.{IsMadeMove}
use Rattle.machine_step.specs.declared.running.Running.{Running}
use Rattle.machine_forms.specs.Forms.{moves_of as moves_in}
use Rattle.machine_step.specs.Steps.{IsCode, IsReady}
use Rattle.machine_step.specs.Runs.{IsCodeOf, linked_moves}
use Rattle.rtl_machine.specs.declared.parts.Parts.{Parts}
use Rattle.rtl_machine.specs.Loading.{code_of, linked_line, memory_with_data, IsLoadable, IsLoaded}
use Rattle.rtl_machine.proofs.Filled.{lines_linked, code_made}
use Rattle.rtl_machine.proofs.Made.{checked_machine, program_made}
use Rattle.rtl_machine.proofs.Starting.{run_start, held_start}

word_is : (w : ℕ) (d : RawDescription) → IsChecked w d → d.word ≡ w
word_is w d c = ap (λ (e : RawDescription). e.word) c.normal ∙ c.word

map_length : {A B : Type 0} (f : A → B) (xs : List A) → length (map f xs) ≡ length xs
map_length f [] = refl
map_length f (x ∷ xs) = ap (λ n. suc n) (map_length f xs)

module _ (w : ℕ) (d : RawDescription) (p : Assembled) (sound : SaidIsSound) (bounded : SaidIsBounded) (checked : IsChecked w d) (assembled : IsAssembled p)
    (loadable : IsLoadable d p) (code : List (List Move)) (lines : code ≡ map (linked_line d p) p.lines) where
  abbrev word : d.word ≡ w
  word = word_is w d checked

  code_is : code ≡ map (linked_moves (code_of d p)) (code_of d p).transfers
  code_is = lines ∙ lines_linked (code_of d p) d.rows p.lines (λ k row e. ((checked_machine w d sound bounded checked).rows k row e).effects)

  made : All (IsMade w) (code_of d p).transfers
  made =
      subst (λ v. All (IsMade v) (code_of d p).transfers) word
      (program_made d p (checked_machine w d sound bounded checked) loadable.instances assembled.named)

  pub loaded_code : IsCodeOf w (code_of d p) code
  loaded_code = record { word = word; made = made; code_is = code_is }

  short : length p.lines < 2 ^ w
  short = subst (λ v. length p.lines < 2 ^ v) word loadable.short

  labels_below : All (λ e. e.at < 2 ^ w) p.labels
  labels_below k e within =
      let at = assembled.within k e within in
      let most = short in
      omega (arith, at, most)

  pub code_ready : IsCode w code
  code_ready = record {
    made =
        subst (λ c. All (λ ms. All (IsMadeMove w) ms) c) (sym code_is)
        (code_made w (code_of d p) (pow_pos w) (subst (λ v. All (λ a. a < 2 ^ v) p.symbols) word loadable.symbols) labels_below (code_of d p).transfers made);
    short = subst (λ n. n < 2 ^ w) (sym (ap length lines ∙ map_length (linked_line d p) p.lines)) short;
  }

pub loaded : (w : ℕ) (d : RawDescription) (p : Assembled) (m : Parts) → IsLoadable d p → IsCodeOf w (code_of d p) (map moves_in m.code.items)
    → m.running.held.registers ≡ replicate 64 0 → m.running.held.flags ≡ replicate 8 None
    → m.running.held.memory.items ≡ memory_with_data d.base d.memory p.bytes → m.running.place ≡ 0 → m.running.waiting ≡ [] → m.running.reader.ended ≡ false
    → m.running.stopped ≡ None → IsLoaded w (code_of d p) m
loaded w d p m loadable is registers flags memory place waiting mark stopped = record {
  code = is;
  run = run_start w (code_of d p) m.running is.word registers flags memory loadable.within_memory place;
  waiting = waiting;
  mark = mark;
  stopped = stopped;
}

-- before the first instruction nothing waits
pub ready : (w : ℕ) (m : Running) → m.held.registers ≡ replicate 64 0 → m.held.flags ≡ replicate 8 None → m.held.next ≡ 0 → m.waiting ≡ [] → IsReady w m
ready w m registers flags next waiting = record {
  held = held_start w m.held registers flags next;
  room = subst (λ xs. length xs < 4096) (sym waiting) (omega arith);
}

pub carried : {V E : Type 0} (P Q : V → Type 0) → ((x : V) → P x → Q x) → (r : Result V E) → IfOk r P → IfOk r Q
carried P Q f (Ok x) h = f x h
carried P Q f (Err e) h = tt
