-- Where what is emitted stands in the finished code.
use Rattle.std.proofs.Common.{◌≡◌, ℕ, List, [], ◌∷◌, ◌++◌, map, length, slice_get, Some, refl, sym, ap, ◌∙◌}
use Rattle.std.proofs.lemmas.List.{append_assoc, append-nil}
use Rattle.temp_machine.specs.Routines.{Exit}
use Rattle.temp_machine.specs.Live.{Place, Transfer as TransferItem, End as EndItem, item_in, item_of, item_at}
use Rattle.temp_code.specs.declared.code.Transfer.{Transfer}
use Rattle.temp_code.specs.declared.code.End.{End}
use Rattle.temp_code.specs.declared.code.End.TheVariants.{Return}
use Rattle.temp_code.specs.declared.code.Block.{Block}
use Rattle.temp_code.specs.declared.code.Code.{Code}
use Rattle.temp_code.specs.Routines.{exit_of, block_of, routine_of}
use Rattle.naive_builder.specs.Appending.{Emitted, with_transfers, with_end}
use Rattle.naive_builder.specs.Finished.{finished}

-- the open place
abbrev pub place_of : Emitted → Place
place_of s = record { block = length s.blocks; at = length s.body }

abbrev block_with : ℕ → End → List Transfer → Block
block_with l e ts = record { label = l; body = ts; end = e }

-- blocks with the finished ones, and behind them one that begins as the open one
pub record IsWithin (bs : List Block) (s : Emitted) : Type 0 where
  pub more : List Transfer
  pub end : End
  pub rest : List Block
  pub is : bs ≡ s.blocks ++ (record { label = s.label; body = s.body ++ more; end = end } ∷ rest)

pub within_finished : (s : Emitted) → IsWithin (finished s) s
within_finished s = record {
  more = [];
  end = Return;
  rest = [];
  is = ap (λ (ts : List Transfer). s.blocks ++ (block_with s.label Return ts ∷ [])) (sym (append-nil s.body));
}

abbrev pub within_puts : (bs : List Block) (s : Emitted) (ts : List Transfer) → IsWithin bs (with_transfers s ts) → IsWithin bs s
within_puts bs s ts h = record {
  more = ts ++ h.more;
  end = h.end;
  rest = h.rest;
  is = h.is ∙ ap (λ (xs : List Transfer). s.blocks ++ (block_with s.label h.end xs ∷ h.rest)) (append_assoc s.body ts h.more);
}

abbrev pub within_closes : (bs : List Block) (s : Emitted) (ts : List Transfer) (e : End) (l : ℕ) → IsWithin bs (with_end (with_transfers s ts) e l) → IsWithin bs s
within_closes bs s ts e l h = record {
  more = ts;
  end = e;
  rest = block_with l h.end h.more ∷ h.rest;
  is = h.is ∙ append_assoc s.blocks (block_with s.label e (s.body ++ ts) ∷ []) (block_with l h.end h.more ∷ h.rest);
}

-- what stands at a place

block_at : (bs : List Block) (b : Block) (rest : List Block) → slice_get (map block_of (bs ++ (b ∷ rest))) (length bs) ≡ Some (block_of b)
block_at [] b rest = refl
block_at (x ∷ bs) b rest = block_at bs b rest

transfer_in : (xs : List Transfer) (t : Transfer) (ts : List Transfer) (e : Exit) → item_in (map (λ x. x.what) (xs ++ (t ∷ ts))) e (length xs) ≡ Some (TransferItem t.what)
transfer_in [] t ts e = refl
transfer_in (x ∷ xs) t ts e = transfer_in xs t ts e

end_in : (xs : List Transfer) (e : Exit) → item_in (map (λ x. x.what) xs) e (length xs) ≡ Some (EndItem e)
end_in [] e = refl
end_in (x ∷ xs) e = end_in xs e

module _ (c : Code) (bs : List Block) (l : ℕ) (rest : List Block) where
  pub transfer_at : (xs : List Transfer) (t : Transfer) (ts : List Transfer) (e : End) → c.blocks ≡ bs ++ (record { label = l; body = xs ++ (t ∷ ts); end = e } ∷ rest)
      → item_at (routine_of c) (record { block = length bs; at = length xs }) ≡ Some (TransferItem t.what)
  transfer_at xs t ts e is =
      ap (λ (all : List Block). item_of (slice_get (map block_of all) (length bs)) (length xs)) is
      ∙ (ap (λ o. item_of o (length xs)) (block_at bs (block_with l e (xs ++ (t ∷ ts))) rest) ∙ transfer_in xs t ts (exit_of e))

  pub end_at : (xs : List Transfer) (e : End) → c.blocks ≡ bs ++ (record { label = l; body = xs; end = e } ∷ rest)
      → item_at (routine_of c) (record { block = length bs; at = length xs }) ≡ Some (EndItem (exit_of e))
  end_at xs e is =
      ap (λ (all : List Block). item_of (slice_get (map block_of all) (length bs)) (length xs)) is
      ∙ (ap (λ o. item_of o (length xs)) (block_at bs (block_with l e xs) rest) ∙ end_in xs (exit_of e))

  -- the end of a block whose body has nothing more
  pub plain_end_at : (xs : List Transfer) (e : End) → c.blocks ≡ bs ++ (record { label = l; body = xs ++ []; end = e } ∷ rest)
      → item_at (routine_of c) (record { block = length bs; at = length xs }) ≡ Some (EndItem (exit_of e))
  plain_end_at xs e is = end_at xs e (is ∙ ap (λ (ts : List Transfer). bs ++ (block_with l e ts ∷ rest)) (append-nil xs))
