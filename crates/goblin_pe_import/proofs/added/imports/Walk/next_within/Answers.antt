use Rattle.std.proofs.Common.{◌≡◌, ◌∙◌, ◌+◌, suc, arith, refl, subst, sym, ℕ}
use Rattle.goblin_pe_sect.specs.Addresses.{map_of, reads_strictly}
use Rattle.goblin_pe_import.specs.added.StepsAhead.{later_ahead, walk_ahead}
use Rattle.goblin_pe_import.specs.Steps.{AreCounted, slots_ahead}
use Rattle.goblin_pe_import.proofs.added.ImportSteps.{ended-cause, next-fault, next-library, next-none, next-refused}
use Rattle.goblin_pe_import.proofs.SlotSteps.{counted-one, grown_spent, refused-one}
use Rattle.goblin_pe_import.proofs.added.PassedLibraries.{ended-passes, passes-kept, passes-library}
use Rattle.goblin_pe_import.proofs.added.StepsAhead.{counted-then, ended-ahead, grown_then, place-ended, refused-then}
use Rattle.goblin_pe_import.proofs.added.imports.Walk.next_within.Goals as goal

pub returns-in-Some-Err-clause-steps : goal.returns-in-Some-Err-clause-steps
returns-in-Some-Err-clause-steps g c =
    let f = g.T.Bitfield.format in
    let is = c.in-Some-Err.field-0-is in
    let given = c.in-Some-Err.ensures in
    next-fault f c.args.self.now c.libraries.self c.libraries.invariant.0 c.in-Some-Err.error c.next_kept_within.new.place (rw is at given.steps)
    (rw is at given.strictly) c.end.new.self c.end.ensures.at

pub libraries-preserved : goal.libraries-preserved
libraries-preserved g c =
    let f = g.T.Bitfield.format in
    let s = c.libraries.self in
    let h = c.libraries.invariant.0 in
    let m = map_of s.finder in
    let kept = c.in-None.ensures in
    let place = c.next_kept_within.new.place in
    let has = c.are_out.ensures.no c.if-are_out.false in
    let none = place-ended place c.next_kept_within.new.steps (kept.ended refl) has in
    let t = c.next_library.new.self in
    let is = c.in-Some-Ok-next_library.field-0-is in
    let library = c.in-Some-Ok-next_library.ensures in
    let rest =
    later_ahead (reads_strictly m) f m.addressing s.bytes.now s.at.tested s.at.pending s.at.next_record in
    let counted : rest ≡ suc (walk_ahead f t) = rw (is, kept.same) at library.counted in
    let ahead : slots_ahead f s.bytes.now place ≡ 0 = rw none refl in
    let steps =
    counted-then c.args.steps.now c.libraries.steps c.next_kept_within.new.steps
    (walk_ahead f c.args.self.now) (slots_ahead f s.bytes.now s.at.place)
    (slots_ahead f s.bytes.now place) rest c.libraries.invariant.1 kept.counted in (
      next-library f c.args.self.now s h place kept.steps none t (rw (is, kept.same) at library.gives) library.bytes
          (library.finder ∙ kept.same) (rw is at library.bound) (rw is at library.named),
      rw c.spend.ensures
          (counted-one c.args.steps.now c.next_kept_within.new.steps (walk_ahead f c.args.self.now)
          (slots_ahead f s.bytes.now place + rest) (walk_ahead f t) has (omega (arith, counted, ahead)) steps),
      rw c.spend.ensures (grown_spent _ _ _ (grown_then _ _ _ c.libraries.invariant.2 kept.spent)),
      λ k. passes-library f c.args.self.now s c.libraries.invariant.3 k place _ _ _ (kept.passed k) none (rw (is, kept.same) at library.passed k),
    )

pub returns-in-Some-Ok-clause-passed : goal.returns-in-Some-Ok-clause-passed
returns-in-Some-Ok-clause-passed g c k =
    let f = g.T.Bitfield.format in
    let s = c.libraries.self in
    let is = c.in-Some-Ok.field-0-is in
    rw c.in-Some-Ok.ensures.same
    (passes-kept f c.args.self.now s c.libraries.invariant.3 k c.next_kept_within.new.place _ (rw is at c.in-Some-Ok.ensures.passed k))

pub returns-then-are_out-clause-passed : goal.returns-then-are_out-clause-passed
returns-then-are_out-clause-passed g c k =
    let f = g.T.Bitfield.format in
    let s = c.libraries.self in
    rw c.in-None.ensures.same
    (passes-kept f c.args.self.now s c.libraries.invariant.3 k c.next_kept_within.new.place _ (c.in-None.ensures.passed k))

pub returns-in-None-next_library-clause-passed : goal.returns-in-None-next_library-clause-passed
returns-in-None-next_library-clause-passed g c k =
    let f = g.T.Bitfield.format in
    let s = c.libraries.self in
    let kept = c.in-None.ensures in
    let place = c.next_kept_within.new.place in
    let none = place-ended place c.next_kept_within.new.steps (kept.ended refl) (c.are_out.ensures.no c.if-are_out.false) in
    let t = c.end-in-None-next_library.new.self in
    rw (ended-passes f t c.end-in-None-next_library.ensures.at k, c.end-in-None-next_library.ensures.passed)
    (passes-library f c.args.self.now s c.libraries.invariant.3 k place _ _ 0 (kept.passed k) none (rw kept.same at c.in-None-next_library.ensures.passed k))

pub returns-in-Some-Err-next_library-clause-steps : goal.returns-in-Some-Err-next_library-clause-steps
returns-in-Some-Err-next_library-clause-steps g c =
    let f = g.T.Bitfield.format in
    let s = c.libraries.self in
    let h = c.libraries.invariant.0 in
    let m = map_of s.finder in
    let kept = c.in-None.ensures in
    let place = c.next_kept_within.new.place in
    let none = place-ended place c.next_kept_within.new.steps (kept.ended refl) (c.are_out.ensures.no c.if-are_out.false) in
    let gives = rw (c.in-Some-Err-next_library.field-0-is, kept.same) at c.in-Some-Err-next_library.ensures.gives in
    next-refused f c.args.self.now s h place kept.steps none c.in-Some-Err-next_library.error gives
    c.end-in-Some-Err-next_library.new.self c.end-in-Some-Err-next_library.ensures.at

pub returns-in-None-next_library-clause-steps : goal.returns-in-None-next_library-clause-steps
returns-in-None-next_library-clause-steps g c =
    let f = g.T.Bitfield.format in
    let s = c.libraries.self in
    let h = c.libraries.invariant.0 in
    let m = map_of s.finder in
    let kept = c.in-None.ensures in
    let place = c.next_kept_within.new.place in
    let none = place-ended place c.next_kept_within.new.steps (kept.ended refl) (c.are_out.ensures.no c.if-are_out.false) in
    let gives = rw kept.same at c.in-None-next_library.ensures.gives in
    let t = c.end-in-None-next_library.new.self in
    let ended = c.end-in-None-next_library.ensures.at in
    let both = next-none f c.args.self.now s h place kept.steps none gives t ended in
    (both.0 ∙ sym both.1, λ e fault. absurd (ended-cause f t ended e fault))

pub returns-in-None-next_library-clause-looked : goal.returns-in-None-next_library-clause-looked
returns-in-None-next_library-clause-looked g c =
    let f = g.T.Bitfield.format in
    let s = c.libraries.self in
    let m = map_of s.finder in
    let kept = c.in-None.ensures in
    let place = c.next_kept_within.new.place in
    let has = c.are_out.ensures.no c.if-are_out.false in
    let none = place-ended place c.next_kept_within.new.steps (kept.ended refl) has in
    let rest =
    later_ahead (reads_strictly m) f m.addressing s.bytes.now s.at.tested s.at.pending s.at.next_record in
    let counted : rest ≡ 0 = rw kept.same at c.in-None-next_library.ensures.counted in
    let ahead : slots_ahead f s.bytes.now place ≡ 0 = rw none refl in
    let nothing : slots_ahead f s.bytes.now place + rest ≡ 0 = omega (arith, counted, ahead) in
    rw (ended-ahead f c.end-in-None-next_library.new.self c.end-in-None-next_library.ensures.at)
    (subst
    (λ (n : ℕ).
    AreCounted c.args.steps.now c.next_kept_within.new.steps (walk_ahead f c.args.self.now) n)
    nothing
    (counted-then c.args.steps.now c.libraries.steps c.next_kept_within.new.steps
    (walk_ahead f c.args.self.now) (slots_ahead f s.bytes.now s.at.place)
    (slots_ahead f s.bytes.now place) rest c.libraries.invariant.1 kept.counted))

pub returns-in-Some-Err-clause-looked : goal.returns-in-Some-Err-clause-looked
returns-in-Some-Err-clause-looked g c =
    let f = g.T.Bitfield.format in
    let s = c.libraries.self in
    let m = map_of s.finder in
    let rest =
    later_ahead (reads_strictly m) f m.addressing s.bytes.now s.at.tested s.at.pending s.at.next_record in
    refused-then c.args.steps.now c.libraries.steps c.next_kept_within.new.steps (walk_ahead f c.args.self.now)
    (slots_ahead f s.bytes.now s.at.place) rest c.libraries.invariant.2 c.libraries.invariant.1
    (rw c.in-Some-Err.field-0-is at c.in-Some-Err.ensures.counted)

pub returns-in-Some-Err-next_library-clause-looked : goal.returns-in-Some-Err-next_library-clause-looked
returns-in-Some-Err-next_library-clause-looked g c =
    let f = g.T.Bitfield.format in
    let s = c.libraries.self in
    let m = map_of s.finder in
    let kept = c.in-None.ensures in
    let place = c.next_kept_within.new.place in
    let rest =
    later_ahead (reads_strictly m) f m.addressing s.bytes.now s.at.tested s.at.pending s.at.next_record in
    rw c.spend-in-Some-Err-next_library.ensures
    (refused-one c.args.steps.now c.next_kept_within.new.steps (walk_ahead f c.args.self.now)
    (slots_ahead f s.bytes.now place + rest) (c.are_out.ensures.no c.if-are_out.false)
    (grown_then _ _ _ c.libraries.invariant.2 kept.spent)
    (counted-then c.args.steps.now c.libraries.steps c.next_kept_within.new.steps
    (walk_ahead f c.args.self.now) (slots_ahead f s.bytes.now s.at.place)
    (slots_ahead f s.bytes.now place) rest c.libraries.invariant.1 kept.counted))
