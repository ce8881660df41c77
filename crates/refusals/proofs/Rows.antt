-- Laws shaped like what the branches of `frame_refusal` leave to show: which row applies, where those before it do not.
use Rattle.std.proofs.Common.{◌≤◌, ◌<◌, ◌≡◌, Bool, true, false, lt-ltb, le-ltb}
use Rattle.wire.specs.declared.frames.Frame.{Frame}
use Rattle.refusals.specs.Refusals.{too_large, barred, miscounted, frame_refusal}

module _ (f : Frame) (old large : Bool) (e : large ≡ too_large f.ident) where
  pub refuses_1 : large ≡ true → 1 ≡ frame_refusal f old
  unfolding frame_refusal
  refuses_1 a = rw (← e, a)

  module _ (bar : Bool) (g : bar ≡ barred old f.ident) where
    pub refuses_8 : large ≡ false → bar ≡ true → 8 ≡ frame_refusal f old
    unfolding frame_refusal
    refuses_8 a b = rw (← e, a, ← g, b)

    pub refuses_2 : large ≡ false → bar ≡ false → 15 < f.code → 2 ≡ frame_refusal f old
    unfolding frame_refusal
    refuses_2 a b c = rw (← e, a, ← g, b, lt-ltb 15 f.code c)

    module _ (off : Bool) (d : off ≡ miscounted f.remote f.code f.count) where
      pub refuses_3 : large ≡ false → bar ≡ false → f.code ≤ 15 → off ≡ true → 3 ≡ frame_refusal f old
      unfolding frame_refusal
      refuses_3 a b c x = rw (← e, a, ← g, b, le-ltb 15 f.code c, ← d, x)

      pub refuses_none : large ≡ false → bar ≡ false → f.code ≤ 15 → off ≡ false → 0 ≡ frame_refusal f old
      unfolding frame_refusal
      refuses_none a b c x = rw (← e, a, ← g, b, le-ltb 15 f.code c, ← d, x)

pub ruleset rows = (refuses_1, refuses_8, refuses_2, refuses_3, refuses_none)
