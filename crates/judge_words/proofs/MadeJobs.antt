-- Jobs of `make`.
use Rattle.std.proofs.Common.{◌≡◌, ◌∙◌, ◌≤◌, ℕ, Bool, true, false, nat_le, if◌then◌else◌, List, [], ◌∷◌, Option, Some}
use Rattle.std.proofs.Common.{None, codes, refl, sym, subst, ap}
use Rattle.std.proofs.lemmas.Bool.{leb-true}
use Rattle.std.specs.Option.{ForSome}
use Rattle.std.specs.Prelude.{option_map, replicate}
use Rattle.hart_words.specs.declared.span.Span.{Span}
use Rattle.hart_words.specs.declared.map.Map.{Map}
use Rattle.hart_words.specs.declared.map.TheConstants.{MOST_DEVICES}
use Rattle.hart_words.specs.Map.{map_beside, map_of, map_with}
use Rattle.hart_words.specs.Spans.{is_span, is_span-true, span_by, span_of, span_with}
use Rattle.clap.proofs.OnLiterals.{clap_on_literals}
use Rattle.clap.specs.Walk.{Row, first_of}
use Rattle.hart_words.specs.Numbers.{digits_number, number_of, number_within}
use Rattle.judge_words.specs.Values.{◌>>=◌, at_most, harts_in, image_limit_in, made_number_in, made_rows_in}
use Rattle.judge_words.specs.Values.{number_at_most, number_of_text, number_up_to, first_pc_in, trace_limit_in}
use Rattle.judge_words.specs.Commands.{command_line, command_entered, values_given_to}
use Rattle.hart_words.specs.Choices.{plain_choices}
use Rattle.csr_file.specs.Profiles.{plain_profile}
use Rattle.judge_words.specs.Cores.{core_in}
use Rattle.judge_words.specs.Job.{IsMadeJob, JobView, files_job, given_map, given_profile, job_from, job_of}
use Rattle.judge_words.specs.Job.{line_product, made_job, rows_choices, sharing_of}
use Rattle.judge_words.specs.declared.job.Command.TheVariants.{Judge, Make}
use Rattle.judge_words.specs.declared.job.Product.{Product}
use Rattle.judge_words.specs.declared.job.Product.TheVariants.{State}
use Rattle.judge_words.specs.declared.values.TheConstants.{MOST_IMAGE_BYTES, MOST_MADE_NUMBER, MOST_MADE_ROWS}
use Rattle.judge_words.specs.declared.values.TheConstants.{MOST_TRACE_BYTES, RAM_BASE, RAM_SIZE}
use Rattle.judge_words.specs.declared.job.Sharing.{Sharing}

-- if a job is one of `make`, this holds of it
abbrev pub IfMade : JobView → Type 0
IfMade job = (number rows : ℕ) → job.command ≡ Make number rows → IsMadeJob job number rows

-- the job of what is made, over this map
abbrev made_with : (number rows : ℕ) → Map → Sharing → JobView
made_with number rows map sharing =
    record {
      command =
          Make number rows;
      pc =
          None;
      map = map;
      harts = 1;
      max_image = MOST_IMAGE_BYTES;
      max_trace = MOST_TRACE_BYTES;
      choices = plain_choices;
      profile = plain_profile;
      sharing = sharing;
    }

-- what holds after each value of a step holds after the step
following : {A B : Type 0} (P : B → Type 0) (x : Option A) (f : A → Option B)
    → ((a : A) → x ≡ Some a → ForSome (f a) P) → ForSome (x >>= f) P
following P None f all y is = cc
following P (Some a) f all y is = all a refl y is

-- a number up to `most` is no greater
within_most : (most value : ℕ) → ForSome (at_most most value) (λ value. value ≤ most)
within_most most value = by (nat_le value most) refl
  where
    by : (test : Bool) → nat_le value most ≡ test → ForSome (if test then Some value else None) (λ value. value ≤ most)
    by true holds other is =
        let same : value ≡ other = cc in
        let P : ℕ → Type 0 = λ value. value ≤ most in
        subst P same (leb-true value most holds)
    by false holds other is = cc

within : (most : ℕ) (text : Option (List ℕ)) → ForSome (text >>= number_at_most most) (λ value. value ≤ most)
unfolding number_at_most
within most text =
    let Within : ℕ → Type 0 = λ value. value ≤ most in
    following Within text (number_at_most most)
    (λ text there. following Within (number_of_text text) (at_most most) (λ value read. within_most most value))

-- jobs over files are not made
of_files : (job : JobView) (image trace : List ℕ) (product : Product) → job.command ≡ Judge image trace product
    → ForSome (Some job) IfMade
of_files job image trace product is other same number rows made =
    let one : job ≡ other = cc in
    let never : Judge image trace product ≡ Make number rows = sym is ∙ ap (λ (job : JobView). job.command) one ∙ made in
    cc

files_named : (product : Product) (given : List Row) → ForSome (files_job product given) IfMade
unfolding files_job
files_named product given =
    following IfMade (first_of (codes "image") given) _ (λ image e1.
    following IfMade (first_of (codes "trace") given) _ (λ trace e2.
    following IfMade (first_pc_in (first_of (codes "pc") given)) _ (λ pc e3.
    following IfMade (given_map given) _ (λ map e4.
    following IfMade (first_of (codes "harts") given >>= harts_in) _ (λ harts h1.
    following IfMade (first_of (codes "max-image") given >>= image_limit_in) _ (λ max_image e7.
    following IfMade (first_of (codes "max-trace") given >>= trace_limit_in) _ (λ max_trace e8.
    following IfMade (core_in (first_of (codes "profile") given)) _ (λ core e5.
    following IfMade (rows_choices core given) _ (λ choices e6.
    following IfMade (given_profile core given) _ (λ profile e9.
    following IfMade (sharing_of given) _ (λ sharing e10.
    of_files
    (record {
      command =
          Judge image trace product;
      pc = pc;
      map = map;
      harts = harts;
      max_image = max_image;
      max_trace = max_trace;
      choices = choices;
      profile = profile;
      sharing = sharing;
    })
    image trace product refl)))))))))))

-- a range has the base and the size that it is made of
span_has : (base size : ℕ) → ForSome (span_of base size) (λ span. (span.base ≡ base) × (span.size ≡ size))
unfolding span_of
span_has base size = by (is_span base size) refl
  where
    by : (test : Bool) (is : is_span base size ≡ test)
        → ForSome (span_by base size test is) (λ span. (span.base ≡ base) × (span.size ≡ size))
    by true is span same =
        let one : span_with base size (is_span-true base size is) ≡ span = cc in
        (ap (λ (span : Span). span.base) (sym one), ap (λ (span : Span). span.size) (sym one))
    by false is span same = cc

-- RAM alone is a map of it
map_alone : (ram : Span)
    → ForSome (map_of ram None) (λ map. (map.ram ≡ ram) × (map.io ≡ replicate MOST_DEVICES None))
unfolding map_of map_with map_beside
map_alone ram map same =
    let one : record { ram = ram; io = replicate MOST_DEVICES None; apart = refl } ≡ map = cc in
    (ap (λ (map : Map). map.ram) (sym one), ap (λ (map : Map). map.io) (sym one))

-- RAM is what it is where nothing else is said, and there are no devices
record IsPlainMap (map : Map) : Type 0 where
  pub base : map.ram.base ≡ RAM_BASE
  pub size : map.ram.size ≡ RAM_SIZE
  pub io : map.io ≡ replicate MOST_DEVICES None

of_made : (number rows : ℕ) (map : Map) (sharing : Sharing) → number ≤ MOST_MADE_NUMBER → rows ≤ MOST_MADE_ROWS
    → IsPlainMap map → ForSome (Some (made_with number rows map sharing)) IfMade
of_made number rows map sharing small within_most plain job same n r made =
    let one : made_with number rows map sharing ≡ job = cc in
    let texts : Make number rows ≡ Make n r = ap (λ (job : JobView). job.command) one ∙ made in
    let number_is : number ≡ n = cc in
    let rows_are : rows ≡ r = cc in
    let over : map ≡ job.map = ap (λ (job : JobView). job.map) one in
    record {
      small = subst (λ n. n ≤ MOST_MADE_NUMBER) number_is small;
      within_most_rows = subst (λ n. n ≤ MOST_MADE_ROWS) rows_are within_most;
      pc = ap (λ (job : JobView). job.pc) (sym one);
      base = ap (λ (map : Map). map.ram.base) (sym over) ∙ plain.base;
      size = ap (λ (map : Map). map.ram.size) (sym over) ∙ plain.size;
      io = ap (λ (map : Map). map.io) (sym over) ∙ plain.io;
      harts = ap (λ (job : JobView). job.harts) (sym one);
      max_image = ap (λ (job : JobView). job.max_image) (sym one);
      max_trace = ap (λ (job : JobView). job.max_trace) (sym one);
      choices = ap (λ (job : JobView). job.choices) (sym one);
      profile = ap (λ (job : JobView). job.profile) (sym one);
    }

made_given : (given : List Row) → ForSome (made_job given) IfMade
unfolding made_job
made_given given =
    following IfMade (first_of (codes "number") given >>= made_number_in) _ (λ number small.
    following IfMade (first_of (codes "rows") given >>= made_rows_in) _ (λ rows few.
    following IfMade (span_of RAM_BASE RAM_SIZE) _ (λ ram spans.
    following IfMade (map_of ram None) _ (λ map maps.
    following IfMade (sharing_of given) _ (λ sharing shared.
    let span : (ram.base ≡ RAM_BASE) × (ram.size ≡ RAM_SIZE) = span_has RAM_BASE RAM_SIZE ram spans in
    let alone : (map.ram ≡ ram) × (map.io ≡ replicate MOST_DEVICES None) = map_alone ram map maps in
    of_made number rows map sharing
    (within MOST_MADE_NUMBER (first_of (codes "number") given) number small)
    (within MOST_MADE_ROWS (first_of (codes "rows") given) rows few)
    (record {
      base = ap (λ (ram : Span). ram.base) alone.0 ∙ span.0;
      size = ap (λ (ram : Span). ram.size) alone.0 ∙ span.1;
      io = alone.1;
    }))))))

pub made_plain : (words : List (List ℕ)) (job : JobView) (number rows : ℕ) → job_of words ≡ Some job
    → job.command ≡ Make number rows → IsMadeJob job number rows
unfolding job_of
made_plain words job number rows asked made =
    let entered = command_entered command_line words in
    go (values_given_to (codes "judge") entered) (values_given_to (codes "state") entered)
    (values_given_to (codes "make") entered) job asked number rows made
  where
    go : (judge state make : Option (List Row)) → ForSome (job_from judge state make) IfMade
    go (Some given) state make = files_named (line_product given) given
    go None (Some given) make = files_named State given
    go None None (Some given) = made_given given
    go None None None = λ job asked. cc

-- words that ask for such a job
pub made_asked : option_map (λ job. job.command)
    (job_of (codes "rvjudge" ∷ codes "make" ∷ codes "7" ∷ codes "3" ∷ [])) ≡ Some (Make 7 3)
unfolding job_of command_line command_entered made_job sharing_of number_at_most number_up_to number_of_text
    number_within
    number_of digits_number span_of map_of map_with map_beside clap_on_literals
made_asked = refl
