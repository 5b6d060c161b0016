-- What the steps of reading, normalising and printing owe one another.
use Rattle.std.proofs.Common.{◌≡◌, ℕ, List, [], ◌∷◌, ◌++◌, Result, Ok, Err, IsErrAnd, unwrap_or, Vec, Global, refl, sym, ap, subst, ◌∙◌}
use Rattle.std.specs.List.{All}
use Rattle.rtl_word.specs.Words.{IsWordSize}
use Rattle.rtl_tree.specs.Moves.{ToCell, Move}
use Rattle.rtl_tree.specs.declared.cells.Cell.TheVariants.{Pc}
use Rattle.rtl_tree.specs.WellFormed.{IsWellFormed}
use Rattle.rtl_norm.specs.Transfers.{norm_moves, IsMoveFitting}
use Rattle.rtl_norm_form.proofs.WellFormed.{well_formed_kept}
use Rattle.rtl_spelling.specs.Spelling.{Context, Said}
use Rattle.rtl_spelling.specs.Printing.{IsPrintable, text_of}
use Rattle.rtl_spelling.specs.Contract.{said_of, TextSays}
use Rattle.rtl_text.specs.Answering.{Tells}
use Rattle.rtl_token.specs.declared.fault.TextFault.{TextFault}
use Rattle.rtl_token.specs.declared.fault.TextFault.TheVariants as fault
use Rattle.rtl_examples.specs.NormalText.{Prints}
use Rattle.rtl_examples.proofs.Printable.{printable_fits, printable_kept, spelled_printable}

-- a transfer that was read from a text without holes
pub record IsRead (c : Context) (text : List ℕ) (ms : List Move) : Type 0 where
  pub size : IsWordSize c.width
  pub closed : c.holes ≡ []
  pub says : TextSays c text ms

printable : (c : Context) (text : List ℕ) (ms : List Move) → IsRead c text ms → IsPrintable c ms
printable c text ms r = let s = r.says.spells.spelled_by in spelled_printable c ms s.placed r.closed s.spells

pub read_fits : (c : Context) (text : List ℕ) (ms : List Move) → IsRead c text ms → All (IsMoveFitting c.width) ms
read_fits c text ms r = printable_fits c ms (printable c text ms r)

pub normal_is_printable : (c : Context) (text : List ℕ) (ms : List Move) → IsRead c text ms → IsPrintable c (norm_moves c.width ms)
normal_is_printable c text ms r = printable_kept c ms r.size (printable c text ms r)

pub normal_is_formed : (c : Context) (text : List ℕ) (ms : List Move) → IsRead c text ms → IsWellFormed (norm_moves c.width ms)
normal_is_formed c text ms r = well_formed_kept c.width ms r.says.well_formed

moves_from : List Said → List Move
moves_from [] = []
moves_from (s ∷ ss) = record { to = unwrap_or s.to (ToCell Pc); value = s.value } ∷ moves_from ss

moves_from_said : (ms : List Move) → moves_from (said_of ms) ≡ ms
unfolding moves_from
moves_from_said [] = refl
moves_from_said (m ∷ ms) = ap (λ xs. m ∷ xs) (moves_from_said ms)

same_moves : (ms ns : List Move) → said_of ms ≡ said_of ns → ms ≡ ns
same_moves ms ns e = sym (moves_from_said ms) ∙ (ap moves_from e ∙ moves_from_said ns)

-- what is printed of the normal form of what was read is that of the one transfer that the text spells
pub printed_alike :
    (c : Context) (ms ns es : List Move) (start out : List ℕ) → said_of ms ≡ said_of ns → es ≡ norm_moves c.width ns → start ≡ [] → out ≡ start ++ text_of c es
    → out ≡ text_of c (norm_moves c.width ms)
printed_alike c ms ns es start out same normal empty printed =
    let moves = same_moves ms ns same in
    let alike : es ≡ norm_moves c.width ms = rw moves normal in
    printed ∙ (ap (λ bytes. bytes ++ text_of c es) empty ∙ ap (text_of c) alike)

-- a fault is told of no text that spells a transfer
pub no_fault : (c : Context) (text : List ℕ) (ms : List Move) (f : TextFault) → TextSays c text ms → Tells (said_of ms) (Err f) → Prints c ms (Err f)
no_fault c text ms fault.NoMemory s t = tt
no_fault c text ms fault.IllFormed s t = t ms refl s.well_formed
no_fault c text ms (fault.BadToken p) s t = t
no_fault c text ms (fault.BadForm p) s t = t
no_fault c text ms (fault.TooDeep p) s t = t

pub handed_on : (c : Context) (ms : List Move) (f : TextFault) (r : Result (Vec ℕ Global) TextFault) → IsErrAnd r (λ e. e ≡ f) → Prints c ms (Err f) → Prints c ms r
handed_on c ms f (Err e) h p = subst (λ x. Prints c ms (Err x)) (sym h) p
handed_on c ms f (Ok v) h p = absurd h
