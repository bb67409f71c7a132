use Rattle.std.proofs.Common.{◌≡◌, ◌∙◌, true, false, refl, sym, ap}
use Rattle.vp_head.specs.Reference.{is_intra}
use Rattle.vp_encoder_tests.proofs.encoding.macroblock.Goals as goal

pub returns-clause-intra : goal.returns-clause-intra
returns-clause-intra c own h g p key skip = record {
  segment = λ e. rw key refl;
  skip = λ none. absurd (let s = rw none at skip in cc);
  reference = λ e. own;
  inter = λ away. absurd (let never : true ≡ false = ap is_intra (sym own) ∙ away in cc);
  subs = λ e. refl;
}

pub returns-clause-inter : goal.returns-clause-inter
returns-clause-inter c away plain_luma h g p key skip zero = record {
  segment = λ e. rw key (sym zero);
  skip = λ none. absurd (let s = rw none at skip in cc);
  reference = λ e. absurd (let never : true ≡ false = sym e ∙ key in cc);
  inter = λ e. rw plain_luma refl;
  subs = λ e. refl;
}
