-- A program's output, when the reader of its pipe is gone.
use Rattle.std.specs.Prelude.{ℕ, List, Option}
use Rattle.vp_hints.specs.declared.pipes.Muted.{Muted}
use Rattle.vp_hints.specs.declared.pipes.Outlet.{Outlet}

-- the bytes that the inner writer contains, if known
abbrev pub outlet_contents : {W : Type 0} → (W → Option (List ℕ)) → Outlet W → Option (List ℕ)
outlet_contents contents o = contents o.inner

-- the inner writer
abbrev pub outlet_inner : {W : Type 0} → Outlet W → W
outlet_inner o = o.inner

-- the same of a writer that can be muted
abbrev pub muted_inner : {W : Type 0} → Muted W → W
muted_inner m = m.inner
