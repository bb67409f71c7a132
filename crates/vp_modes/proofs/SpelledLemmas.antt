-- What is read of a macroblock can be written.
use Rattle.std.proofs.Common.{◌≡◌, ◌∙◌, ℕ, Bool, true, false, replicate, Option, Some, None, refl, sym, ap}
use Rattle.vp_base.specs.declared.place.Place.{Place}
use Rattle.vp_base.specs.Grid.{Grid, at}
use Rattle.vp_bool.specs.Bools.{State}
use Rattle.vp_bool.specs.Reader.{Reader, bind, when}
use Rattle.vp_tables.specs.declared.modes.SubMode.TheVariants as sub_is
use Rattle.vp_tables.specs.Modes.{is_by_subblocks}
use Rattle.vp_head.specs.declared.fields.Header.{Header}
use Rattle.vp_head.specs.declared.fields.Reference.TheVariants as reference_is
use Rattle.vp_head.specs.Reference.{is_intra}
use Rattle.vp_modes.specs.Entry.{Modes, plain}
use Rattle.vp_modes.specs.Entry.{unread}
use Rattle.vp_modes.specs.Modes.{segment_of, skip_by, reference_of, intra_modes, modes_at}
use Rattle.vp_modes.specs.Spelled.{AreWritableModes}

-- what isn't asked for is as it stands without
unasked : {A : Type 0} (asked : Bool) (m : Reader A) (a : A) (s : State) → asked ≡ false → (when asked m a s).0 ≡ a
unasked true m a s e = absurd cc
unasked false m a s e = refl

unskipped : (p : Option ℕ) (s : State) → p ≡ None → (skip_by p s).0 ≡ false
unskipped (Some p) s e = absurd cc
unskipped None s e = refl

key_reference : (h : Header) (s : State) → h.key ≡ true → (reference_of h s).0 ≡ reference_is.Intra
unfolding reference_of bind
key_reference h s e = rw e refl

-- what the prediction keeps of what was read before it, and what it leaves out
record Kept (m r : Modes) : Type 0 where
  pub segment : r.segment ≡ m.segment
  pub skip : r.skip ≡ m.skip
  pub reference : r.reference ≡ m.reference
  pub inter : is_intra m.reference ≡ false → r ≡ m
  pub subs : is_by_subblocks r.luma ≡ false → r.subs ≡ replicate 16 sub_is.Dc

kept : (h : Header) (g : Grid Modes) (p : Place) (m : Modes) (s : State) (b : Bool) → is_intra m.reference ≡ b → m.subs ≡ replicate 16 sub_is.Dc
    → Kept m (when b (intra_modes h g p m) m s).0
unfolding intra_modes bind
kept h g p m s true e d = record { segment = refl; skip = refl; reference = refl; inter = λ i. absurd cc; subs = λ n. unasked _ _ _ _ n }
kept h g p m s false e d = record { segment = refl; skip = refl; reference = refl; inter = λ i. refl; subs = λ n. d }

pub spelled : (h : Header) (g : Grid Modes) (p : Place) (s : State) → AreWritableModes h g p (modes_at h g p s).0
unfolding modes_at segment_of bind
spelled h g p s =
    let a = segment_of h (at plain g p).segment s in
    let b = skip_by h.skip a.1 in
    let c = reference_of h b.1 in
    let m = unread a.0 b.0 c.0 in
    let k = kept h g p m c.1 (is_intra c.0) refl refl in
    record {
      segment = λ e. k.segment ∙ unasked _ _ _ s e;
      skip = λ e. k.skip ∙ unskipped h.skip a.1 e;
      reference = λ e. k.reference ∙ key_reference h b.1 e;
      inter = λ e. k.inter (sym (ap is_intra k.reference) ∙ e) ∙ λ i. unread (sym k.segment i) (sym k.skip i) (sym k.reference i);
      subs = k.subs;
    }
