-- What the transfer of each shape reads and sets, by its access.
use Rattle.std.proofs.Common.{◌≡◌, ◌⊎◌, inl, inr, ℕ, Bool, true, false, not, ◌||◌, ◌&&◌, List, refl, ap, ◌∙◌}
use Rattle.rtl_tree.specs.declared.cells.Cell.{Cell}
use Rattle.rtl_tree.specs.declared.cells.Cell.TheVariants.{Temp, Flag}
use Rattle.rtl_tree.specs.Moves.{Move}
use Rattle.rtl_tree.specs.Same.{same_cell}
use Rattle.md_shapes.specs.declared.patterns.Pattern.{Pattern}
use Rattle.md_shapes.specs.declared.patterns.Pattern.TheVariants as shape
use Rattle.md_shapes.specs.Shapes.{Frame, Open, shape_moves}
use Rattle.temp_machine.specs.Cells.{some_set, reads, reads_beside_flags, is_flag}
use Rattle.naive_live.specs.Live.{Access, Neither, Reads, ReadsBoth, Sets, SetsBySecond, Changes, ChangesBySecond, Unused, access}

pub clash : false ≡ true → ⊥
clash e = cc

-- a test of a list of one
pub alone : (b : Bool) → (b || false) ≡ true → b ≡ true
alone true e = refl
alone false e = absurd (clash e)

pub either : (a b : Bool) → (a || b) ≡ true → (a ≡ true) ⊎ (b ≡ true)
either true b e = inl refl
either false b e = inr e

-- behind a test that a place is no flag
kept : (f s : Bool) → ((not f && s) || false) ≡ true → s ≡ true
kept true s e = absurd (clash e)
kept false s e = alone s e

lone : (b : Bool) → b ≡ true → (b || false) ≡ true
lone b e = ap (λ (x : Bool). x || false) e

none : (b : Bool) → b ≡ false → (b || false) ≡ false
none b e = ap (λ (x : Bool). x || false) e

neither : (a b : Bool) → a ≡ false → b ≡ false → ((a || b) || false) ≡ false
neither a b e f = ap (λ (x : Bool). (x || b) || false) e ∙ ap (λ (x : Bool). x || false) f

module _ (m : Frame) (at : Open) where
  abbrev moves : Pattern → List Move
  moves p = shape_moves m p at

  module _ (i : ℕ) where
    abbrev Is : Cell → Type 0
    Is c = same_cell (Temp i) c ≡ true

    -- by an access it is read, or set
    abbrev pub ReadBy : Access → Type 0
    ReadBy Neither = ⊥
    ReadBy Reads = Is at.a
    ReadBy ReadsBoth = Is at.a ⊎ Is at.b
    ReadBy Sets = ⊥
    ReadBy SetsBySecond = Is at.b
    ReadBy Changes = Is at.a
    ReadBy ChangesBySecond = Is at.a ⊎ Is at.b
    ReadBy Unused = Unit {0}

    abbrev pub SetBy : Access → Type 0
    SetBy Neither = ⊥
    SetBy Reads = ⊥
    SetBy ReadsBoth = ⊥
    SetBy Sets = Is at.a
    SetBy SetsBySecond = Is at.a
    SetBy Changes = Is at.a
    SetBy ChangesBySecond = Is at.a
    SetBy Unused = Unit {0}

    abbrev a_is : Bool
    a_is = same_cell (Temp i) at.a

    abbrev b_is : Bool
    b_is = same_cell (Temp i) at.b

    abbrev to_flag : Bool
    to_flag = is_flag at.a

    pub reads_by : (p : Pattern) → reads_beside_flags (Temp i) (moves p) ≡ true → ReadBy (access p)
    reads_by shape.Copy e = kept to_flag b_is e
    reads_by shape.SetNumber e = clash (kept to_flag false e)
    reads_by shape.SetSymbol e = clash (kept to_flag false e)
    reads_by shape.Load e = kept to_flag b_is e
    reads_by shape.Store e = either a_is b_is (alone (a_is || b_is) e)
    reads_by shape.LoadByte e = kept to_flag b_is e
    reads_by shape.StoreByte e = either a_is b_is (alone (a_is || b_is) e)
    reads_by shape.LoadHome e = clash (kept to_flag false e)
    reads_by shape.StoreHome e = alone a_is e
    reads_by shape.StoreTop e = alone a_is e
    reads_by shape.ReadStack e = clash (kept to_flag false e)
    reads_by (shape.Operate o) e = either a_is b_is (kept to_flag (a_is || b_is) e)
    reads_by shape.Complement e = kept to_flag a_is e
    reads_by shape.Clear e = either a_is b_is (kept to_flag (a_is || b_is) e)
    reads_by shape.TakeInput e = clash e
    reads_by shape.PutOutput e = clash e
    reads_by shape.ReadResult e = clash (kept to_flag false e)
    reads_by shape.SetResult e = alone a_is e
    reads_by shape.ExtendByte e = kept to_flag a_is e
    reads_by shape.MoveStack e = tt
    reads_by shape.SetStack e = tt
    reads_by shape.Jump e = tt
    reads_by (shape.Branch r) e = tt
    reads_by (shape.Compare j) e = tt
    reads_by (shape.BranchByFlag r j) e = tt
    reads_by shape.Call e = tt
    reads_by shape.Return e = tt
    reads_by shape.SaveLink e = tt
    reads_by shape.RestoreLink e = tt
    reads_by shape.Halt e = tt

    pub sets_by : (p : Pattern) → some_set (same_cell (Temp i)) (moves p) ≡ true → SetBy (access p)
    sets_by shape.Copy e = alone a_is e
    sets_by shape.SetNumber e = alone a_is e
    sets_by shape.SetSymbol e = alone a_is e
    sets_by shape.Load e = alone a_is e
    sets_by shape.Store e = clash e
    sets_by shape.LoadByte e = alone a_is e
    sets_by shape.StoreByte e = clash e
    sets_by shape.LoadHome e = alone a_is e
    sets_by shape.StoreHome e = clash e
    sets_by shape.StoreTop e = clash e
    sets_by shape.ReadStack e = alone a_is e
    sets_by (shape.Operate o) e = alone a_is e
    sets_by shape.Complement e = alone a_is e
    sets_by shape.Clear e = alone a_is e
    sets_by shape.TakeInput e = clash e
    sets_by shape.PutOutput e = clash e
    sets_by shape.ReadResult e = alone a_is e
    sets_by shape.SetResult e = clash e
    sets_by shape.ExtendByte e = alone a_is e
    sets_by shape.MoveStack e = tt
    sets_by shape.SetStack e = tt
    sets_by shape.Jump e = tt
    sets_by (shape.Branch r) e = tt
    sets_by (shape.Compare j) e = tt
    sets_by (shape.BranchByFlag r j) e = tt
    sets_by shape.Call e = tt
    sets_by shape.Return e = tt
    sets_by shape.SaveLink e = tt
    sets_by shape.RestoreLink e = tt
    sets_by shape.Halt e = tt

    abbrev pub Setting : Access → Type 0
    Setting Sets = Unit {0}
    Setting SetsBySecond = Unit {0}
    Setting _ = ⊥

    -- what comes to be live is set
    pub set_there : (p : Pattern) → Setting (access p) → Is at.a → some_set (same_cell (Temp i)) (moves p) ≡ true
    set_there shape.Copy h e = lone a_is e
    set_there shape.SetNumber h e = lone a_is e
    set_there shape.SetSymbol h e = lone a_is e
    set_there shape.Load h e = lone a_is e
    set_there shape.LoadByte h e = lone a_is e
    set_there shape.LoadHome h e = lone a_is e
    set_there shape.ReadStack h e = lone a_is e
    set_there shape.ReadResult h e = lone a_is e
    set_there shape.Store h e = absurd h
    set_there shape.StoreByte h e = absurd h
    set_there shape.StoreHome h e = absurd h
    set_there shape.StoreTop h e = absurd h
    set_there (shape.Operate o) h e = absurd h
    set_there shape.Complement h e = absurd h
    set_there shape.Clear h e = absurd h
    set_there shape.TakeInput h e = absurd h
    set_there shape.PutOutput h e = absurd h
    set_there shape.SetResult h e = absurd h
    set_there shape.ExtendByte h e = absurd h
    set_there shape.MoveStack h e = absurd h
    set_there shape.SetStack h e = absurd h
    set_there shape.Jump h e = absurd h
    set_there (shape.Branch r) h e = absurd h
    set_there (shape.Compare j) h e = absurd h
    set_there (shape.BranchByFlag r j) h e = absurd h
    set_there shape.Call h e = absurd h
    set_there shape.Return h e = absurd h
    set_there shape.SaveLink h e = absurd h
    set_there shape.RestoreLink h e = absurd h
    set_there shape.Halt h e = absurd h

  -- no flag is read
  module _ (n : ℕ) where
    abbrev a_flag : Bool
    a_flag = same_cell (Flag n) at.a

    abbrev b_flag : Bool
    b_flag = same_cell (Flag n) at.b

    abbrev pub Flagless : Access → Type 0
    Flagless Neither = Unit {0}
    Flagless Reads = a_flag ≡ false
    Flagless ReadsBoth = (a_flag ≡ false) × (b_flag ≡ false)
    Flagless Sets = Unit {0}
    Flagless SetsBySecond = b_flag ≡ false
    Flagless Changes = a_flag ≡ false
    Flagless ChangesBySecond = (a_flag ≡ false) × (b_flag ≡ false)
    Flagless Unused = ⊥

    pub no_flags : (p : Pattern) → Flagless (access p) → reads (Flag n) (moves p) ≡ false
    no_flags shape.Copy h = none b_flag h
    no_flags shape.SetNumber h = refl
    no_flags shape.SetSymbol h = refl
    no_flags shape.Load h = none b_flag h
    no_flags shape.Store h = neither a_flag b_flag h.0 h.1
    no_flags shape.LoadByte h = none b_flag h
    no_flags shape.StoreByte h = neither a_flag b_flag h.0 h.1
    no_flags shape.LoadHome h = refl
    no_flags shape.StoreHome h = none a_flag h
    no_flags shape.StoreTop h = none a_flag h
    no_flags shape.ReadStack h = refl
    no_flags (shape.Operate o) h = neither a_flag b_flag h.0 h.1
    no_flags shape.Complement h = none a_flag h
    no_flags shape.Clear h = neither a_flag b_flag h.0 h.1
    no_flags shape.TakeInput h = refl
    no_flags shape.PutOutput h = refl
    no_flags shape.ReadResult h = refl
    no_flags shape.SetResult h = none a_flag h
    no_flags shape.ExtendByte h = none a_flag h
    no_flags shape.MoveStack h = absurd h
    no_flags shape.SetStack h = absurd h
    no_flags shape.Jump h = absurd h
    no_flags (shape.Branch r) h = absurd h
    no_flags (shape.Compare j) h = absurd h
    no_flags (shape.BranchByFlag r j) h = absurd h
    no_flags shape.Call h = absurd h
    no_flags shape.Return h = absurd h
    no_flags shape.SaveLink h = absurd h
    no_flags shape.RestoreLink h = absurd h
    no_flags shape.Halt h = absurd h
