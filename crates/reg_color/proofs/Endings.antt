-- Ends of blocks, and blocks.
use Rattle.std.proofs.Common.{◌≡◌, ℕ, suc, ◌+◌, ◌<◌, ◌≤◌, ◌||◌, Bool, true, false, List, [], ◌∷◌, ◌++◌, map, drop, get_or, length, All, refl, sym, ap, subst, ◌∙◌, arith}
use Rattle.std.specs.List.{list_any, AllZip}
use Rattle.std.proofs.lemmas.List.{append_assoc, map-append, append-nil}
use Rattle.std.proofs.lemmas.List.Elements.{All-nil, All-cons, All-head, All-tail, All-append}
use Rattle.std.proofs.lemmas.List.Folds.{list_any-append}
use Rattle.std.proofs.Math.Seq.{drop-cons}
use Rattle.md_rows.specs.declared.description.RawDescription.{RawDescription}
use Rattle.temp_machine.specs.Routines.{exit_transfers, Target}
use Rattle.temp_machine.specs.Cells.{is_temporary, mentions}
use Rattle.temp_code.specs.declared.code.Transfer.{Transfer}
use Rattle.temp_code.specs.declared.code.End.{End}
use Rattle.temp_code.specs.declared.code.End.TheVariants.{Fall, Jump, Branch, Call, Return}
use Rattle.temp_code.specs.declared.code.Block.{Block}
use Rattle.temp_code.specs.Realised.{IsRealised, end_transfers}
use Rattle.temp_code.specs.Routines.{exit_of}
use Rattle.color_transfer.specs.Code.{falls, jumps, branches, calls, returns}
use Rattle.color_image.specs.Laws.{IsStraightTransfer}
use Rattle.color_homes.specs.declared.places.Places.{Places}
use Rattle.color_homes.specs.Putting.{IsPlainStep, PutsLoads, target_in}
use Rattle.reg_color.specs.Putting.{MayCall, StandFor, EndsWith, IsBlock}
use Rattle.reg_color.proofs.Bodies.{what, all_dropped}

pub neither : (b c : Bool) → b ≡ false → c ≡ false → (b || c) ≡ false
neither true c e f = e
neither false c e f = f

no_call_jump : (x z : Transfer) → Jump x ≡ Call z → ⊥
no_call_jump x z e = cc

no_call_branch : (x z : Transfer) → Branch x ≡ Call z → ⊥
no_call_branch x z e = cc

module _ (d : RawDescription) (p : Places) where
  abbrev t : Target
  t = target_in d p

  one_realised : (x : Transfer) → IsRealised d x → All (IsRealised d) (x ∷ [])
  one_realised x h = All-cons (IsRealised d) x [] h (All-nil (IsRealised d))

  pub jump_ends : (x y : Transfer) (before after : List Transfer) → PutsLoads d p x y before after → EndsWith d p (Jump x) before after (Jump y)
  jump_ends x y before after puts =
      record {
        loads = puts.loads;
        is = puts.is;
        exit = jumps x.what (map what puts.loads) y.what puts.put.parts;
        each = puts.put.before;
        realised = one_realised y puts.put.realised;
        plain = neither (mentions is_temporary y.what) false puts.put.plain refl;
        calls = λ z. (λ e. absurd (no_call_jump y z e), λ e. absurd (no_call_jump x z e));
      }

  pub branch_ends : (x y : Transfer) (before after : List Transfer) → PutsLoads d p x y before after → EndsWith d p (Branch x) before after (Branch y)
  branch_ends x y before after puts =
      record {
        loads = puts.loads;
        is = puts.is;
        exit = branches x.what (map what puts.loads) y.what puts.put.parts;
        each = puts.put.before;
        realised = one_realised y puts.put.realised;
        plain = neither (mentions is_temporary y.what) false puts.put.plain refl;
        calls = λ z. (λ e. absurd (no_call_branch y z e), λ e. absurd (no_call_branch x z e));
      }

  pub call_ends : (x y : Transfer) (body : List Transfer) → MayCall d p x → y ≡ x → EndsWith d p (Call x) body body (Call y)
  call_ends x y body may e =
      subst (λ (z : Transfer). EndsWith d p (Call x) body body (Call z)) (sym e)
      record {
        loads = [];
        is = sym (append-nil body);
        exit = calls x.what;
        each = All-nil (IsPlainStep d t);
        realised = one_realised x may.realised;
        plain = neither (mentions is_temporary x.what) false may.plain refl;
        calls = λ z. (λ f. f, λ f. f);
      }

  pub fall_ends : (body : List Transfer) → EndsWith d p Fall body body Fall
  fall_ends body =
      record {
        loads = [];
        is = sym (append-nil body);
        exit = falls;
        each = All-nil (IsPlainStep d t);
        realised = All-nil (IsRealised d);
        plain = refl;
        calls = λ z. (λ f. f, λ f. f);
      }

  pub return_ends : (body : List Transfer) → EndsWith d p Return body body Return
  return_ends body =
      record {
        loads = [];
        is = sym (append-nil body);
        exit = returns;
        each = All-nil (IsPlainStep d t);
        realised = All-nil (IsRealised d);
        plain = refl;
        calls = λ z. (λ f. f, λ f. f);
      }

  -- ---- blocks

  abbrev Good : Transfer → Type 0
  Good = IsPlainStep d t

  all_realised : (xs : List Transfer) → All Good xs → All (IsRealised d) xs
  all_realised [] h = All-nil (IsRealised d)
  all_realised (x ∷ xs) h = All-cons (IsRealised d) x xs (All-head Good x xs h).realised (all_realised xs (All-tail Good x xs h))

  all_straight : (xs : List Transfer) → All Good xs → All (λ x. IsStraightTransfer t x.what) xs
  all_straight [] h = All-nil (λ (x : Transfer). IsStraightTransfer t x.what)
  all_straight (x ∷ xs) h = All-cons (λ (x : Transfer). IsStraightTransfer t x.what) x xs (All-head Good x xs h).straight (all_straight xs (All-tail Good x xs h))

  all_plain : (xs : List Transfer) → All Good xs → list_any (mentions is_temporary) (map what xs) ≡ false
  all_plain [] h = refl
  all_plain (x ∷ xs) h = neither (mentions is_temporary x.what) (list_any (mentions is_temporary) (map what xs)) (All-head Good x xs h).plain (all_plain xs (All-tail Good x xs h))

  pub block_made : (b : Block) (made body : List Transfer) (e : End) → StandFor d p b.body [] made → EndsWith d p b.end made body e
      → IsBlock d p b (record { label = b.label; body = body; end = e })
  block_made b made body e s q =
      let good : All Good body = subst (All Good) (sym (q.is ∙ ap (λ (ys : List Transfer). ys ++ q.loads) s.is)) (All-append Good s.added q.loads s.each q.each) in
      record {
        block =
            record {
              body = map what s.added;
              loads = map what q.loads;
              label = refl;
              colored = s.colored;
              is = ap (map what) (q.is ∙ ap (λ (ys : List Transfer). ys ++ q.loads) s.is) ∙ map-append what s.added q.loads;
              exit = q.exit;
            };
        realised = All-append (IsRealised d) body (end_transfers e) (all_realised body good) q.realised;
        plain =
            list_any-append (mentions is_temporary) (map what body) (exit_transfers (exit_of e))
            ∙ neither (list_any (mentions is_temporary) (map what body)) (list_any (mentions is_temporary) (exit_transfers (exit_of e))) (all_plain body good) q.plain;
        straight = all_straight body good;
        calls = q.calls;
      }

  -- the blocks that are made so far, with those in place of the rest
  abbrev pub ArePut : List Block → List Block → Type 0
  ArePut bs cs = AllZip (IsBlock d p) bs cs

  pub blocks_next : (bs : List Block) (i : ℕ) (b c : Block) (made : List Block) → i < length bs → b ≡ get_or bs i b
      → ((more : List Block) → ArePut (drop i bs) more → ArePut bs (made ++ more)) → IsBlock d p b c
      → (more : List Block) → ArePut (drop (i + 1) bs) more → ArePut bs ((made ++ c ∷ []) ++ more)
  blocks_next bs i b c made l is left q more rest =
      let at : drop i bs ≡ b ∷ drop (i + 1) bs = drop-cons bs i b l ∙ (λ j. sym is j ∷ drop (let e : suc i ≡ i + 1 = omega arith in e j) bs) in
      subst (ArePut bs) (sym (append_assoc made (c ∷ []) more)) (left (c ∷ more) (subst (λ (ys : List Block). ArePut ys (c ∷ more)) (sym at) (q, rest)))

  pub blocks_done : (bs made : List Block) (i : ℕ) → length bs ≤ i → ((more : List Block) → ArePut (drop i bs) more → ArePut bs (made ++ more)) → ArePut bs made
  blocks_done bs made i l left = subst (ArePut bs) (append-nil made) (left [] (subst (λ (ys : List Block). ArePut ys []) (sym (all_dropped bs i l)) tt))
