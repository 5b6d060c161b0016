-- What stands in a block.
use Rattle.std.proofs.Common.{◌≡◌, ◌||◌, Bool, List, [], ◌∷◌, ◌++◌, map, refl, sym, ap, ◌∙◌}
use Rattle.std.specs.List.{list_any}
use Rattle.rtl_tree.specs.Moves.{Move}
use Rattle.temp_machine.specs.Routines.{block_transfers, exit_transfers}
use Rattle.temp_code.specs.declared.code.Transfer.{Transfer}
use Rattle.temp_code.specs.declared.code.Block.{Block}
use Rattle.temp_code.specs.Routines.{block_of, exit_of}
use Rattle.flow_live.proofs.Becoming.{put_more}

any_of_both : (p : List Move → Bool) (ms : List Transfer) (rest : List (List Move)) → list_any p (map (λ t. t.what) ms ++ rest) ≡ (list_any (λ t. p t.what) ms || list_any p rest)
any_of_both p [] rest = refl
any_of_both p (t ∷ ms) rest = ap (λ (b : Bool). p t.what || b) (any_of_both p ms rest) ∙ sym (put_more (p t.what) (list_any (λ t. p t.what) ms) (list_any p rest))

pub block_has : (p : List Move → Bool) (b : Block)
    → list_any p (block_transfers (block_of b)) ≡ (list_any (λ t. p t.what) b.body || list_any p (exit_transfers (exit_of b.end)))
block_has p b = any_of_both p b.body (exit_transfers (exit_of b.end))
