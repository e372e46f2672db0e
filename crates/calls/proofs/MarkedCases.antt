-- The marked cases hold. Assumes nothing.
use mathlib.Core.Path.{refl}
use Rattle.merge.specs.Classes.{is_whiteout, class_of}
use Rattle.merge.specs.Stacks.{later_step, later, first_step, merge, marks, merge_errno}
use Rattle.merge.specs.Methods.{with_count, fallen}
use Rattle.calls.specs.Dirents.{padding, dirent_size}
use Rattle.calls.specs.Marked.{Marked}

pub marked : Marked
unfolding is_whiteout class_of later_step later first_step merge marks merge_errno with_count fallen padding dirent_size
marked =
    record {
      m1 = (refl, refl);
      m2 = (refl, refl);
      m3 = (refl, refl);
      m4 = (refl, refl);
      m5 = (refl, refl);
      m6 = (refl, refl);
      m7 = (refl, refl);
      m8 = refl;
      m9 = λ n e. rw e refl;
      m10 = λ n e. rw e refl;
      m11 = (λ d e. rw e refl, λ d e. rw e refl, λ d e. rw e refl);
    }
