use Rattle.step.proofs.Moving.{left_none}
use Rattle.step.proofs.window.Window.make_room.Goals as goal

pub returns-else-self-setup : goal.returns-else-self-setup
returns-else-self-setup c = left_none c.requires.windowed c.if-self-setup.false
