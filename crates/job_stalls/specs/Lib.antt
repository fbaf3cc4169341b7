pub mod StallFiles
