use Rattle.dir.proofs.HoldLaws.{directory_dir, directory_other}
use Rattle.dir.proofs.directory.Goals as goal

pub returns-in-Dir : goal.returns-in-Dir
returns-in-Dir c = search directory_dir

pub returns-in-File : goal.returns-in-File
returns-in-File c = search directory_other
