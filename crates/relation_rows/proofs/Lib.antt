mod Arguments
mod Finding
mod Related
