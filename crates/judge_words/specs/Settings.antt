-- A job before its names are copied.
use Rattle.judge_words.specs.Job.{JobView}
use Rattle.judge_words.specs.declared.job.Settings.{Settings}
use Rattle.judge_words.specs.declared.job.Command.TheVariants.{Judge}
use Rattle.judge_words.specs.declared.job.Product.{Product}

-- the job that writes this of the trace, as it is defined
abbrev pub settings_view : Product → Settings → JobView
settings_view product settings = record {
  command = Judge settings.image.now settings.trace.now product;
  pc = settings.pc;
  map = settings.map;
  harts = settings.harts;
  max_image = settings.max_image;
  max_trace = settings.max_trace;
  choices = settings.choices;
  profile = settings.profile;
  sharing = settings.sharing;
}
