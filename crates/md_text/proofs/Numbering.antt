-- The numbers of the lines that a text declares go up.
use Rattle.std.proofs.Common.{◌≡◌, ℕ, suc, ◌+◌, ◌<◌, Bool, true, false, cond, not, List, [], ◌∷◌, sym, subst, length, arith}
use Rattle.std.specs.List.{filter}
use Rattle.rtl_word.specs.Words.{IsWordSize}
use Rattle.md_text.specs.Lines.{Line, kept, numbered_from, is_skipped}
use Rattle.md_text.specs.Declarations.{Declaration, Declared, HaveForms, Declares}
use Rattle.md_text.specs.Numbered.{GoUp, IsNumbered}
use Rattle.md_text.proofs.Declaring.{width_size}

-- a line that may be kept, and those behind it
go_up_behind :
    (b : Bool) (w m last : ℕ) (line : Line) (rest : List Line) (ds : List Declaration) → m < line.number
    → ((k : ℕ) (es : List Declaration) → k < suc line.number → HaveForms w rest es → GoUp k es last)
    → HaveForms w (cond b (line ∷ rest) rest) ds → GoUp m ds last
go_up_behind false w m last line rest ds l next h = next m ds (omega (arith, l)) h
go_up_behind true w m last line rest [] l next h = absurd h
go_up_behind true w m last line rest (d ∷ ds) l next h = (omega (arith, l, h.0), next d.line ds (omega (arith, h.0)) h.2)

-- lines from the n-th on, of which p keeps some
go_up :
    (p : Line → Bool) (w m n last : ℕ) (lines : List (List ℕ)) (ds : List Declaration) → m < n → suc last ≡ n + length lines
    → HaveForms w (filter p (numbered_from n lines)) ds → GoUp m ds last
go_up p w m n last [] [] l e h = omega (arith, l, e)
go_up p w m n last [] (d ∷ ds) l e h = absurd h
go_up p w m n last (line ∷ lines) ds l e h =
    go_up_behind (p (record { number = n; bytes = line })) w m last (record { number = n; bytes = line }) (filter p (numbered_from (suc n) lines)) ds l
    (λ k es g f. go_up p w k (suc n) last lines es g (omega (arith, e)) f) h

pub declared_numbered : (text : List ℕ) (d : Declared) → Declares text d → IsNumbered d
declared_numbered text d h = record {
  width = subst IsWordSize (sym h.width) (width_size (kept h.lines));
  lines = go_up (λ line. not (is_skipped line.bytes)) d.width 0 1 d.last h.lines d.all (omega arith) (omega (arith, h.last)) h.forms;
}
