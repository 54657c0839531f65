use Rattle.made_runs.proofs.ImageTexts.{image_len, image_read}
use Rattle.made_runs.proofs.laws.made_images_read_back.Goals as goal

pub returns-clause-bytes : goal.returns-clause-bytes
returns-clause-bytes c = image_read

pub returns-clause-short : goal.returns-clause-short
returns-clause-short c = image_len
