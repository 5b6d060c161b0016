-- Each operation that was appended is done between two places.
use Rattle.std.proofs.Common.{◌≡◌, inl, inr, ℕ, suc, ◌+◌, ◌^◌, ◌<◌, List, [], ◌∷◌, ◌++◌, map, length, Some, refl, sym, ap, ◌∙◌, subst, arith}
use Rattle.std.specs.Prelude.{Contains}
use Rattle.std.proofs.lemmas.List.{append_assoc, length-append}
use Rattle.rtl_word.specs.Words.{IsWordSize}
use Rattle.md_rows.specs.declared.description.RawDescription.{RawDescription}
use Rattle.md_shapes.specs.declared.patterns.Pattern.TheVariants as shape
use Rattle.md_shapes.specs.Shapes.{Frame as Fixed}
use Rattle.md_check.specs.Checking.{IsChecked}
use Rattle.temp_machine.specs.Routines.{Branches}
use Rattle.temp_machine.specs.Machine.{position}
use Rattle.temp_machine.specs.Live.{Place, Transfer as TransferItem, End as EndItem, item_at}
use Rattle.temp_code.specs.declared.code.Transfer.{Transfer}
use Rattle.temp_code.specs.declared.code.End.{End}
use Rattle.temp_code.specs.declared.code.Block.{Block}
use Rattle.temp_code.specs.declared.code.Code.{Code}
use Rattle.temp_code.specs.Routines.{block_of, routine_of}
use Rattle.temp_laws.specs.Doing.{TransfersDoShapes, BodiesDoShapes, FlagBranchesDoBranches}
use Rattle.temp_laws.specs.Going.{CallsGo}
use Rattle.naive_code.specs.Operations.{Stop, Op, Make, Meet, Scale, Extend, Close}
use Rattle.naive_run.specs.Standing.{Shaped, ways, with_label, on_two_to, HasShaped, HasAll, IsClosed, One, Stands}
use Rattle.naive_builder.specs.Appending.{Emitted, with_transfers, with_function, AllMade, IsEnd, falls, jumps, branches, branches_by_flag, calls, leaves, AppendsOne, puts, closes, Appends, nothing, one_more}
use Rattle.naive_builder.specs.Finished.{AreOnce}
use Rattle.naive_builder.proofs.Places.{place_of, IsWithin, within_puts, within_closes, transfer_at, end_at, plain_end_at}
use Rattle.naive_builder.proofs.Numbers.{numbers_fit}
use Rattle.naive_builder.proofs.Labels.{labels_in, position_of}

-- the laws of transfers of shapes
pub record AreLaws : Type 0 where
  pub transfers : TransfersDoShapes
  pub bodies : BodiesDoShapes
  pub flags : FlagBranchesDoBranches
  pub calls : CallsGo

within_one : (d : RawDescription) (m : Fixed) (bs : List Block) (s t : Emitted) (o : Op) → AppendsOne d m s o t → IsWithin bs t → IsWithin bs s
within_one d m bs _ _ _ (puts s o way ts h k) i = within_puts bs s ts i
within_one d m bs _ _ _ (closes s stop l ts e h) i = within_closes bs s ts e l i

-- what was emitted first stands where more was appended
pub within_before : (d : RawDescription) (m : Fixed) (bs : List Block) (s t : Emitted) (os : List Op) → Appends d m s os t → IsWithin bs t → IsWithin bs s
within_before d m bs _ _ _ (nothing s) i = i
within_before d m bs _ _ _ (one_more s t u o os one rest) i = within_one d m bs s t o one (within_before d m bs t u os rest i)

module _ (laws : AreLaws) (w : ℕ) (d : RawDescription) (m : Fixed) (checked : IsChecked w d) (size : IsWordSize d.word) (memory : m.memory < 2 ^ d.word) (c : Code) where
  abbrev at : List Block → ℕ → Place
  at bs n = record { block = length bs; at = n }

  all_stand : (bs : List Block) (l : ℕ) (rest : List Block) (xs : List Transfer) (way : List Shaped) (ts more : List Transfer) (e : End) (n : ℕ)
      → AllMade d m way ts → c.blocks ≡ bs ++ (record { label = l; body = xs ++ (ts ++ more); end = e } ∷ rest) → n ≡ length xs
      → HasAll d.word m (routine_of c) way (at bs n) (at bs (n + length ts))
  all_stand bs l rest xs [] [] more e n h is q = ap (λ (k : ℕ). at bs k) (omega arith)
  all_stand bs l rest xs (s ∷ way) (t ∷ ts) more e n h is q =
      let here = transfer_at c bs l rest xs t (ts ++ more) e is in
      let one : HasShaped d.word m (routine_of c) s (at bs n) (at bs (suc n)) = record {
        transfer = t.what;
        at = subst (λ (k : ℕ). item_at (routine_of c) (at bs k) ≡ Some (TransferItem t.what)) (sym q) here;
        does = laws.bodies w d m s.pattern s.at t checked h.1.operands h.1.transfer h.0;
        numbers = numbers_fit d.word size m memory s.pattern s.at h.0 h.1.operands.number;
        behind = refl;
      } in
      let next : c.blocks ≡ bs ++ (record { label = l; body = (xs ++ t ∷ []) ++ (ts ++ more); end = e } ∷ rest) =
      is ∙ ap (λ (ys : List Transfer). bs ++ (record { label = l; body = ys; end = e } ∷ rest)) (sym (append_assoc xs (t ∷ []) (ts ++ more))) in
      let long : length (xs ++ t ∷ []) ≡ length xs + 1 = length-append xs (t ∷ []) in
      let deeper : suc n ≡ length (xs ++ t ∷ []) = omega (arith, long, q) in
      let sum : suc n + length ts ≡ n + suc (length ts) = omega arith in (
        at bs (suc n),
        one,
        subst (λ (k : ℕ). HasAll d.word m (routine_of c) way (at bs (suc n)) (at bs k)) sum
            (all_stand bs l rest (xs ++ t ∷ []) way ts more e (suc n) h.2 next deeper),
      )
  all_stand bs l rest xs [] (t ∷ ts) more e n h is q = absurd h
  all_stand bs l rest xs (s ∷ way) [] more e n h is q = absurd h

  ways_stand : (o : Op) (way : List Shaped) (p q : Place) → Contains (ways d.word o) way → HasAll d.word m (routine_of c) way p q → One d.word m (routine_of c) o p q
  ways_stand (Make s a) way p q h k = (way, h, k)
  ways_stand (Meet a b) way p q h k = (way, h, k)
  ways_stand (Scale a b) way p q h k = (way, h, k)
  ways_stand (Extend a b) way p q h k = (way, h, k)
  ways_stand (Close stop l) way p q h k = absurd (omega (arith, h.1))

  abbrev IsClosedAt : List Block → List Transfer → Stop → Type 0
  IsClosedAt bs xs stop = (q : Place) × IsClosed d.word m (routine_of c) stop (at bs (length xs)) q

  end_stands : (bs : List Block) (l : ℕ) (rest : List Block) (xs : List Transfer) (stop : Stop) (ts : List Transfer) (e : End) → IsEnd d m stop ts e
      → c.blocks ≡ bs ++ (record { label = l; body = xs ++ ts; end = e } ∷ rest) → IsClosedAt bs xs stop
  end_stands bs l rest xs _ _ _ falls is = (at bs (length xs), (plain_end_at c bs l rest xs _ is, refl))
  end_stands bs l rest xs _ _ _ leaves is = (at bs (length xs), (plain_end_at c bs l rest xs _ is, refl))
  end_stands bs l rest xs _ _ _ (jumps k t h) is =
      (at bs (length xs), ((t.what, plain_end_at c bs l rest xs _ is, laws.transfers w d m shape.Jump (with_label k) t checked h.operands h.transfer), refl))
  end_stands bs l rest xs _ _ _ (calls f t h) is =
      (at bs (length xs), ((t.what, plain_end_at c bs l rest xs _ is, laws.calls w d m (with_function f) t f checked h.transfer refl), refl))
  end_stands bs l rest xs _ _ _ (branches r a b k t h) is =
      (at bs (length xs), inl ((t.what, plain_end_at c bs l rest xs _ is, laws.transfers w d m (shape.Branch r) (on_two_to a b k) t checked h.operands h.transfer), refl))
  end_stands bs l rest xs _ _ _ (branches_by_flag r a b k j compare jump h g) is =
      let long : length (xs ++ compare ∷ []) ≡ suc (length xs) = length-append xs (compare ∷ []) ∙ omega arith in (
        at bs (suc (length xs)),
        inr (record {
          compares = compare.what;
          at = transfer_at c bs l rest xs compare [] _ is;
          behind = refl;
          jumps = jump.what;
          end = subst (λ (n : ℕ). item_at (routine_of c) (at bs n) ≡ Some (EndItem (Branches jump.what))) long (end_at c bs l rest (xs ++ compare ∷ []) _ is);
          does = record {
            does = laws.flags w d m r j (on_two_to a b k) compare jump checked (record { a = h.operands.a; b = h.operands.b; number = tt }) h.transfer g.transfer;
          };
        }),
      )

  one_stands : (s t : Emitted) (o : Op) → AreOnce (labels_in c.blocks) → AppendsOne d m s o t → IsWithin c.blocks t → One d.word m (routine_of c) o (place_of s) (place_of t)
  one_stands _ _ _ once (puts s o way ts h k) i =
      let j = within_puts c.blocks s ts i in
      let sum : length s.body + length ts ≡ length (s.body ++ ts) = sym (length-append s.body ts) in
      ways_stand o way (place_of s) (place_of (with_transfers s ts)) h
      (subst (λ (n : ℕ). HasAll d.word m (routine_of c) way (place_of s) (at s.blocks n)) sum
      (all_stand s.blocks s.label j.rest s.body way ts i.more i.end (length s.body) k j.is refl))
  one_stands _ _ _ once (closes s stop l ts e h) i =
      let j = within_closes c.blocks s ts e l i in
      let closed = end_stands s.blocks s.label j.rest s.body stop ts e h j.is in
      let before = s.blocks ++ record { label = s.label; body = s.body ++ ts; end = e } ∷ [] in
      let count : length before ≡ suc (length s.blocks) = length-append s.blocks _ ∙ omega arith in
      let at_label : position (map block_of c.blocks) l 0 ≡ length before =
      ap (λ (bs : List Block). position (map block_of bs) l 0) i.is
      ∙ position_of before (record { label = l; body = i.more; end = i.end }) i.rest (subst (λ (bs : List Block). AreOnce (labels_in bs)) i.is once) in
      (closed.0, closed.1, at_label ∙ count, ap (λ (n : ℕ). record { block = n; at = 0 }) count)

  pub all_stands : (s t : Emitted) (os : List Op) → AreOnce (labels_in c.blocks) → Appends d m s os t → IsWithin c.blocks t
      → Stands d.word m (routine_of c) os (place_of s) (place_of t)
  all_stands _ _ _ once (nothing s) i = refl
  all_stands _ _ _ once (one_more s t u o os one rest) i =
      (place_of t, one_stands s t o once one (within_before d m c.blocks t u os rest i), all_stands t u os once rest i)
