-- What the text of a made image describes.
use Rattle.std.specs.Prelude.{◌≡◌, ℕ, Option, Ok, unwrap_or}
use Rattle.hart_words.specs.declared.map.Map.{Map}
use Rattle.image_text.specs.Image.{image_of}
use Rattle.trace_maker.specs.Texts.{made_image}
use Rattle.made_runs.specs.States.{HasImage}

-- the text describes bytes, and memory that is 0 elsewhere has the image
pub record IsMadeImage (map : Map) (number : ℕ) : Type 0 where
  pub bytes : ℕ → Option ℕ
  pub image : image_of map.ram (made_image number) ≡ Ok bytes
  pub has_image : HasImage number (λ address. unwrap_or (bytes address) 0)
