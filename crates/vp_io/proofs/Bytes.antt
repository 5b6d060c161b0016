-- Known bytes that grow twice, and a file that is fetched piece by piece.
use Rattle.std.proofs.Common.{◌≡◌, ℕ, ◌+◌, ◌-◌, ◌<◌, ◌≤◌, min, List, [], ◌++◌, take-append-drop, drop-drop, arith, length, take, drop, Option, None, Some, sym, ap, ◌∙◌, subst, append_assoc}
use Rattle.std.proofs.Common.{Ok, length-append}
use Rattle.std.proofs.lemmas.List.{length-take-le}
use Rattle.std.proofs.Math.Seq.{take-add}
use Rattle.std.proofs.Math.ListN.{drop_of_length-le}
use Rattle.std.specs.Io.KnownBytes.{Appends}
use Rattle.vp_io.specs.declared.answers.Failed.{Failed}
use Rattle.vp_io.specs.Files.{Told, OfFile, FetchGives}

-- first bytes, and then first bytes of the rest, are first bytes
pub appends_more : (a b c : Option (List ℕ)) (m n : ℕ) (bs rest : List ℕ) → rest ≡ drop m bs → Appends a b (take m bs) → Appends b c (take n rest) → Appends a c (take (m + n) bs)
appends_more None b c m n bs rest e x y = tt
appends_more (Some xs) None c m n bs rest e x y = absurd x
appends_more (Some xs) (Some ys) None m n bs rest e x y = absurd y
appends_more (Some xs) (Some ys) (Some zs) m n bs rest e x y =
    y ∙ ap (λ l. l ++ take n rest) x ∙ append_assoc xs (take m bs) (take n rest)
    ∙ ap (λ l. xs ++ (take m bs ++ take n l)) e ∙ ap (λ l. xs ++ l) (sym (take-add m n bs))

-- the first bytes of a file, and the piece that follows, are first bytes of the file
file_more_told : (told : Told) (name text into text' : List ℕ) (n : ℕ) → n ≤ length into → OfFile told name (λ file. text ≡ take (length text) file) → FetchGives {E = Failed} told name (length text) (Ok n) into → text' ≡ text ++ take n into → OfFile told name (λ file. text' ≡ take (length text') file)
file_more_told None name text into text' n le front gives e = tt
file_more_told (Some files) name text into text' n le front gives e =
    let file = files name in
    let len : length text' ≡ length text + n = ap length e ∙ length-append text (take n into) ∙ ap (λ k. length text + k) (length-take-le n into le) in
    e ∙ ap (λ l. text ++ l) gives.bytes ∙ ap (λ l. l ++ take n (drop (length text) file)) front
    ∙ sym (take-add (length text) n file) ∙ ap (λ k. take k file) (sym len)

pub file_more : (told told' : Told) → told' ≡ told → (name text into text' : List ℕ) (at n : ℕ) → at ≡ length text → n ≤ length into → OfFile told name (λ file. text ≡ take (length text) file) → FetchGives {E = Failed} told' name at (Ok n) into → text' ≡ text ++ take n into → OfFile told name (λ file. text' ≡ take (length text') file)
file_more told told' same name text into text' at n is le front gives e =
    file_more_told told name text into text' n le front (subst (λ k. FetchGives {E = Failed} told name k (Ok n) into) is (subst (λ t. FetchGives {E = Failed} t name at (Ok n) into) same gives)) e

-- the bytes from a place on are the n that were given and those behind them
pub front_given : (bs bs' into : List ℕ) (at n : ℕ) → bs' ≡ bs → take n into ≡ take n (drop at bs') → drop at bs ≡ take n into ++ drop (at + n) bs
front_given bs bs' into at n same gives =
    sym (take-append-drop n (drop at bs))
    ∙ ap (λ l. l ++ drop n (drop at bs)) (sym (gives ∙ ap (λ l. take n (drop at l)) same))
    ∙ ap (λ l. take n into ++ l) (drop-drop n at bs)

-- where no byte was given in a piece with room, none is left
pub none_left : (bs : List ℕ) (room piece at n len : ℕ) → n ≡ min (min room piece) (len - at) → len ≡ length bs → 0 < room → 0 < piece → n ≡ 0 → drop (at + n) bs ≡ []
none_left bs room piece at n len count same some_room some_piece zero = drop_of_length-le bs (omega (arith, count, same, some_room, some_piece, zero))
